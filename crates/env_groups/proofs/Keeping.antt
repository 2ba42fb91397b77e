-- What all meanings, lists of tokens and boxes have is kept by each call.
use Rattle.std.proofs.Common.{◌≡◌, ℕ, ℤ, List, [], ◌∷◌, Option, Some, None, Result, Ok, Err, IfSome, Bool, true, false, cond, subst}
use Rattle.ts_base.specs.Agreement.{◌>>=◌}
use Rattle.ts_geometry.specs.declared.glue.Glue.{Glue}
use Rattle.ts_geometry.specs.declared.measure.Sp.{Sp}
use Rattle.tok_lists.specs.declared.token.Token.{Token}
use Rattle.box_tree.specs.declared.item.FontNo.{FontNo}
use Rattle.box_tree.specs.Trees.{BoxTree}
use Rattle.layered_tables.specs.Environments.{opened, closed, set, in_all, in_those_from}
use Rattle.layered_tables.specs.Tables.{member_at, put}
use Rattle.layered_tables.proofs.Values.{has_put, has_none}
use Rattle.env_groups.specs.declared.code.CodeKey.{CodeKey}
use Rattle.env_groups.specs.declared.code.CodeKey.TheVariants.{Cat, Kcat, Xsp, InhibitXsp, Pre, Post}
use Rattle.env_groups.specs.declared.fault.EnvFault.{EnvFault}
use Rattle.env_groups.specs.declared.fault.EnvFault.TheVariants as faults
use Rattle.env_groups.specs.declared.font.FontSlot.{FontSlot}
use Rattle.env_groups.specs.declared.group.GroupKind.{GroupKind}
use Rattle.env_groups.specs.declared.key.IntKey.{IntKey}
use Rattle.env_groups.specs.declared.key.DimKey.{DimKey}
use Rattle.env_groups.specs.declared.key.GlueKey.{GlueKey}
use Rattle.env_groups.specs.declared.key.ToksKey.{ToksKey}
use Rattle.env_groups.specs.declared.meaning.Meaning.{Meaning}
use Rattle.env_groups.specs.Environments.{Environment, Nest, blank, start, present, toks_at, box_at, meaning_at, group_opened, group_closed, int_set, dim_set, glue_set, toks_set, box_set, box_replaced, code_set, meaning_set, font_set}
use Rattle.env_groups.specs.declared.code.CharPenalty.TheVariants as penalties
use Rattle.env_groups.specs.Fonts.{slot_place}
use Rattle.env_groups.specs.CharCodes.{char_place, cell_place}
use Rattle.env_groups.specs.StartMeanings.{start_meaning}
use Rattle.env_groups.specs.Laws.{HasValues, HaveValues}
use Rattle.std.specs.Option.{unwrap_or}

-- what a call makes that finds what it needs
ok_by : {A : Type 0} (Q : Nest → Type 0) (found : Result A EnvFault) (f : A → Nest) (new : Nest) → (found >>= λ a. Ok (f a)) ≡ Ok new
    → ((a : A) → Q (f a)) → Q new
ok_by Q (Ok a) f new is all = let same : f a ≡ new = cc in subst Q same (all a)
ok_by Q (Err e) f new is all = absurd cc

-- what a call makes that tests its state
ok_unless : (Q : Nest → Type 0) (b : Bool) (fault : EnvFault) (made new : Nest) → cond b (Err fault) (Ok made) ≡ Ok new → Q made → Q new
ok_unless Q true fault made new is of = absurd cc
ok_unless Q false fault made new is of = let same : made ≡ new = cc in subst Q same of

ok_if : (Q : Nest → Type 0) (b : Bool) (fault : EnvFault) (made new : Nest) → cond b (Ok made) (Err fault) ≡ Ok new → Q made → Q new
ok_if Q true fault made new is of = let same : made ≡ new = cc in subst Q same of
ok_if Q false fault made new is of = absurd cc

module _ (M : Meaning → Type 0) (T : List Token → Type 0) (B : BoxTree → Type 0) where
  abbrev Has : Environment → Type 0
  Has e = HasValues M T B e

  abbrev pub Have : Nest → Type 0
  Have nest = HaveValues M T B nest.environments

  -- a change of the environments that keeps what each has
  in_each : (f : Environment → Environment) (es : List Environment) → ((e : Environment) → Has e → Has (f e)) → HaveValues M T B es
      → HaveValues M T B (in_all f es)
  in_each f [] keeps of = tt
  in_each f (e ∷ es) keeps of = (keeps e of.0, in_each f es keeps of.1)

  in_set : (b : Bool) (f : ℕ → Environment → Environment) (es : List Environment) → ((m : ℕ) (e : Environment) → Has e → Has (f m e))
      → HaveValues M T B es → HaveValues M T B (set b f es)
  in_set true f es keeps of = in_each (f 1) es (keeps 1) of
  in_set false f [] keeps of = tt
  in_set false f (e ∷ es) keeps of = (keeps _ e of.0, of.1)

  either : (b : Bool) (ds es : List Environment) → HaveValues M T B ds → HaveValues M T B es → HaveValues M T B (cond b ds es)
  either true ds es of_ds of_es = of_ds
  either false ds es of_ds of_es = of_es

  in_some : (m : ℕ) (f : Environment → Environment) (es : List Environment) → ((e : Environment) → Has e → Has (f e)) → HaveValues M T B es
      → HaveValues M T B (in_those_from m f es)
  in_some m f [] keeps of = tt
  in_some m f (e ∷ es) keeps of = either _ (f e ∷ in_those_from m f es) (e ∷ es) (keeps e of.0, in_some m f es keeps of.1) of

  pub int_keeps : (old new : Nest) (key : IntKey) (value : ℤ) (b : Bool) → int_set old key value b ≡ Ok new → Have old → Have new
  int_keeps old new key value b is of = ok_by Have _ _ new is (λ place. in_set b (λ m e. record e { ints = put place value m e.ints }) old.environments
      (λ m e h. record { meanings = h.meanings; toks = h.toks; boxes = h.boxes }) of)

  pub dim_keeps : (old new : Nest) (key : DimKey) (value : Sp) (b : Bool) → dim_set old key value b ≡ Ok new → Have old → Have new
  dim_keeps old new key value b is of = ok_by Have _ _ new is (λ place. in_set b (λ m e. record e { dims = put place value m e.dims }) old.environments
      (λ m e h. record { meanings = h.meanings; toks = h.toks; boxes = h.boxes }) of)

  pub glue_keeps : (old new : Nest) (key : GlueKey) (value : Glue) (b : Bool) → glue_set old key value b ≡ Ok new → Have old → Have new
  glue_keeps old new key value b is of = ok_by Have _ _ new is (λ place. in_set b (λ m e. record e { glues = put place value m e.glues }) old.environments
      (λ m e h. record { meanings = h.meanings; toks = h.toks; boxes = h.boxes }) of)

  pub toks_keeps : (old new : Nest) (key : ToksKey) (value : List Token) (b : Bool) → toks_set old key value b ≡ Ok new → T value → Have old → Have new
  toks_keeps old new key value b is of_value of = ok_by Have _ _ new is (λ place. in_set b (λ m e. record e { toks = put place value m e.toks }) old.environments
      (λ m e h. record { meanings = h.meanings; toks = has_put T place value m e.toks of_value h.toks; boxes = h.boxes }) of)

  pub box_keeps : (old new : Nest) (n : ℕ) (value : Option BoxTree) (b : Bool) → box_set old n value b ≡ Ok new → IfSome value B → Have old → Have new
  box_keeps old new n value b is of_value of = ok_by Have _ _ new is (λ place. in_set b (λ m e. record e { boxes = put place value m e.boxes }) old.environments
      (λ m e h. record { meanings = h.meanings; toks = h.toks; boxes = has_put (λ o. IfSome o B) place value m e.boxes of_value h.boxes }) of)

  pub replace_keeps : (old new : Nest) (n : ℕ) (value : Option BoxTree) → box_replaced old n value ≡ Ok new → IfSome value B → Have old → Have new
  replace_keeps old new n value is of_value of = ok_by Have _ _ new is (λ place. let m = member_at (present old).boxes place in in_some m (λ e. record e { boxes = put place value m e.boxes }) old.environments
      (λ e h. record { meanings = h.meanings; toks = h.toks; boxes = has_put (λ o. IfSome o B) place value _ e.boxes of_value h.boxes }) of)

  pub code_keeps : (old new : Nest) (key : CodeKey) (value : ℤ) (b : Bool) → code_set old key value b ≡ Ok new → Have old → Have new
  code_keeps old new (Cat c) value b is of = ok_by Have _ _ new is (λ v. in_set b (λ m e. record e { cats = put c v m e.cats }) old.environments
      (λ m e h. record { meanings = h.meanings; toks = h.toks; boxes = h.boxes }) of)
  code_keeps old new (Kcat k) value b is of = ok_by Have _ _ new is (λ v. in_set b (λ m e. record e { kinds = put k.row v m e.kinds }) old.environments
      (λ m e h. record { meanings = h.meanings; toks = h.toks; boxes = h.boxes }) of)
  code_keeps old new (Xsp c) value b is of = ok_by Have _ _ new is (λ v. in_set b (λ m e. record e { spacings = put c v m e.spacings }) old.environments
      (λ m e h. record { meanings = h.meanings; toks = h.toks; boxes = h.boxes }) of)
  code_keeps old new (InhibitXsp k) value b is of = ok_by Have _ _ new is (λ v. in_set b (λ m e. record e { spacings = put (cell_place k) v m e.spacings }) old.environments
      (λ m e h. record { meanings = h.meanings; toks = h.toks; boxes = h.boxes }) of)
  code_keeps old new (Pre c) value b is of = ok_by Have _ _ new is (λ v. in_set b (λ m e. record e { penalties = put (char_place c) (penalties.Pre v) m e.penalties }) old.environments
      (λ m e h. record { meanings = h.meanings; toks = h.toks; boxes = h.boxes }) of)
  code_keeps old new (Post c) value b is of = ok_by Have _ _ new is (λ v. in_set b (λ m e. record e { penalties = put (char_place c) (penalties.Post v) m e.penalties }) old.environments
      (λ m e h. record { meanings = h.meanings; toks = h.toks; boxes = h.boxes }) of)

  pub meaning_keeps : (old : Nest) (name : ℕ) (value : Meaning) (b : Bool) → M value → Have old → Have (meaning_set old name value b)
  meaning_keeps old name value b of_value of = in_set b (λ m e. record e { meanings = put name value m e.meanings }) old.environments
      (λ m e h. record { meanings = has_put M name value m e.meanings of_value h.meanings; toks = h.toks; boxes = h.boxes }) of

  pub font_keeps : (old : Nest) (slot : FontSlot) (value : FontNo) (b : Bool) → Have old → Have (font_set old slot value b)
  font_keeps old slot value b of = in_set b (λ m e. record e { selected = put (slot_place slot) value m e.selected }) old.environments
      (λ m e h. record { meanings = h.meanings; toks = h.toks; boxes = h.boxes }) of

  once_more : (es : List Environment) → HaveValues M T B es → HaveValues M T B (opened es)
  once_more [] of = tt
  once_more (e ∷ es) of = (of.0, of)

  once_less : (es : List Environment) → HaveValues M T B es → HaveValues M T B (closed es)
  once_less [] of = tt
  once_less (e ∷ es) of = of.1

  pub open_keeps : (old new : Nest) (kind : GroupKind) → group_opened old kind ≡ Ok new → Have old → Have new
  open_keeps old new kind is of = ok_unless Have _ faults.GroupsFull _ new is (once_more old.environments of)

  pub close_keeps : (old new : Nest) (kind : GroupKind) → group_closed old kind ≡ Ok new → Have old → Have new
  close_keeps old new kind is of = ok_if Have _ faults.GroupEnd _ new is (once_less old.environments of)

  has_blank : Has (blank)
  has_blank = record { meanings = has_none M; toks = has_none T; boxes = has_none (λ o. IfSome o B) }

  pub start_has : Have start
  start_has = (has_blank, tt)

  -- the innermost environment has them
  has_first : (es : List Environment) → HaveValues M T B es → Has (elim es [ [] ↦ blank | e ∷ es ↦ e ])
  has_first [] of = has_blank
  has_first (e ∷ es) of = of.0

or_start : {X : Type 0} (P : X → Type 0) (o : Option X) (start : X) → IfSome o P → P start → P (unwrap_or o start)
or_start P None start of of_start = of_start
or_start P (Some x) start of of_start = of

got_by : {X : Type 0} (P : X → Type 0) (found : Result ℕ EnvFault) (f : ℕ → X) (value : X) → (found >>= λ a. Ok (f a)) ≡ Ok value → ((a : ℕ) → P (f a)) → P value
got_by P (Ok a) f value is all = let same : f a ≡ value = cc in subst P same (all a)
got_by P (Err e) f value is all = absurd cc

module _ (M : Meaning → Type 0) (T : List Token → Type 0) (B : BoxTree → Type 0) where
  pub meaning_has : (nest : Nest) (name : ℕ) → HaveValues M T B nest.environments → M (start_meaning name) → M (meaning_at nest name)
  meaning_has nest name of of_start = or_start M _ _ ((has_first M T B nest.environments of).meanings name) of_start

  pub toks_has : (nest : Nest) (key : ToksKey) (value : List Token) → toks_at nest key ≡ Ok value → HaveValues M T B nest.environments → T [] → T value
  toks_has nest key value is of of_start =
      got_by T _ _ value is (λ place. or_start T _ _ ((has_first M T B nest.environments of).toks place) of_start)

  pub box_has : (nest : Nest) (n : ℕ) (value : Option BoxTree) → box_at nest n ≡ Ok value → HaveValues M T B nest.environments → IfSome value B
  box_has nest n value is of =
      got_by (λ o. IfSome o B) _ _ value is (λ place. or_start (λ o. IfSome o B) _ None ((has_first M T B nest.environments of).boxes place) tt)
