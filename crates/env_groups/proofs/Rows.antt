-- What becomes of the environments where one stack is changed.
use Rattle.std.proofs.Common.{◌≡◌, ℕ, ◌+◌, ◌<◌, ◌≤◌, ℤ, zero, suc, List, [], ◌∷◌, ◌++◌, length, reverse, Option, Result, Ok, Err, Bool, true, false, cond, refl, sym, ap, ◌∙◌, arith, ⊎_elim}
use Rattle.std.proofs.lemmas.Bool.{cases_lt, le-leb, lt-leb}
use Rattle.std.proofs.lemmas.List.{length-reverse, reverse-append, length_push}
use Rattle.ts_base.specs.Agreement.{◌>>=◌}
use Rattle.layered_tables.specs.Environments.{opened, closed, in_innermost, in_all, in_those_from, set}
use Rattle.layered_tables.specs.Tables.{Table, innermost, put, with_set, with_replaced, member_at}
use Rattle.ts_geometry.specs.declared.glue.Glue.{Glue}
use Rattle.ts_geometry.specs.declared.measure.Sp.{Sp}
use Rattle.tok_lists.specs.declared.token.Token.{Token}
use Rattle.box_tree.specs.declared.item.FontNo.{FontNo}
use Rattle.box_tree.specs.Trees.{BoxTree}
use Rattle.env_groups.specs.declared.code.Category.{Category}
use Rattle.env_groups.specs.declared.code.Kind.{Kind}
use Rattle.env_groups.specs.declared.code.CharPenalty.{CharPenalty}
use Rattle.env_groups.specs.declared.meaning.Meaning.{Meaning}
use Rattle.env_groups.specs.declared.fault.EnvFault.{EnvFault}
use Rattle.env_groups.specs.declared.fault.EnvFault.TheVariants.{GroupsFull}
use Rattle.env_groups.specs.declared.group.GroupKind.{GroupKind}
use Rattle.env_groups.specs.declared.env.Env.TheInside.{Inside}
use Rattle.env_groups.specs.Environments.{Environment, Nest, setting, group_opened, most_groups}
use Rattle.env_groups.specs.Stacks.{Stacks, first, rest, rows, AreTall}
use Rattle.env_groups.specs.Inside.{stacks, nest_of}

module _ {E : Type 0} where
  pub from_inner : (m : ℕ) (f : E → E) (e : E) (es : List E) → m ≤ length es + 1 → in_those_from m f (e ∷ es) ≡ f e ∷ in_those_from m f es
  from_inner m f e es within = ap (λ b. cond b (f e ∷ in_those_from m f es) (e ∷ es)) (le-leb _ _ within)

  pub from_outer : (m : ℕ) (f : E → E) (e : E) (es : List E) → length es + 1 < m → in_those_from m f (e ∷ es) ≡ e ∷ es
  from_outer m f e es past = ap (λ b. cond b (f e ∷ in_those_from m f es) (e ∷ es)) (lt-leb _ _ past)

module _ {X : Type 0} where
  pub length-from : (m : ℕ) (f : X → X) (es : List X) → length (in_those_from m f es) ≡ length es
  length-from m f [] = refl
  length-from m f (e ∷ es) = ⊎_elim
      (λ past. ap length (from_outer m f e es past))
      (λ within. ap length (from_inner m f e es (omega arith)) ∙ ap suc (length-from m f es))
      (cases_lt (length es + 1) m)

pub length-rows : (n : ℕ) (s : Stacks) → length (rows n s) ≡ n
length-rows zero s = refl
length-rows (suc n) s = ap suc (length-rows n (rest s))

-- One of the stacks: how it is read and written, and what that is to the environments.
pub record Field (X : Type 0) : Type 0 where
  pub get : Stacks → List (Table X)
  pub put : List (Table X) → Stacks → Stacks
  pub over : (Table X → Table X) → Environment → Environment
  pub first_put : (ts : List (Table X)) (s : Stacks) (f : Table X → Table X) → innermost ts ≡ f (innermost (get s)) → first (put ts s) ≡ over f (first s)
  pub rest_put : (ts : List (Table X)) (s : Stacks) → rest (put ts s) ≡ put (closed ts) (rest s)
  pub get_rest : (s : Stacks) → get (rest s) ≡ closed (get s)
  pub put_get : (s : Stacks) → put (get s) s ≡ s

module _ {X : Type 0} (field : Field X) where
  head : (ts : List (Table X)) (t : Table X) (us : List (Table X)) → ts ≡ t ∷ us → innermost ts ≡ t
  head ts t us is = ap innermost is

  -- a change of each
  rows_all : (n : ℕ) (s : Stacks) (ts : List (Table X)) (f : Table X → Table X) → field.get s ≡ ts → length ts ≡ n
      → rows n (field.put (in_all f ts) s) ≡ in_all (field.over f) (rows n s)
  rows_all zero s ts f is tall = refl
  rows_all (suc n) s [] f is tall = absurd (omega arith)
  rows_all (suc n) s (t ∷ ts) f is tall =
      let below = field.get_rest s ∙ ap closed is in
      let here = field.first_put (f t ∷ in_all f ts) s f (sym (ap (λ us. f (innermost us)) is)) in
      let others = ap (rows n) (field.rest_put (f t ∷ in_all f ts) s) ∙ rows_all n (rest s) ts f below (omega arith) in
      λ i. here i ∷ others i

  -- a change of the innermost
  rows_innermost : (n : ℕ) (s : Stacks) (ts : List (Table X)) (f : ℕ → Table X → Table X) → field.get s ≡ ts → length ts ≡ suc n
      → rows (suc n) (field.put (in_innermost f ts) s) ≡ in_innermost (λ m. field.over (f m)) (rows (suc n) s)
  rows_innermost n s [] f is tall = absurd (omega arith)
  rows_innermost n s (t ∷ ts) f is tall =
      let m = length ts + 1 in
      let count : length (rows n (rest s)) + 1 ≡ m = let e = length-rows n (rest s) in omega arith in
      let here = field.first_put (f m t ∷ ts) s (f m) (sym (ap (λ us. f m (innermost us)) is)) in
      let below = ap (rows n) (field.rest_put (f m t ∷ ts) s ∙ ap (λ us. field.put us (rest s)) (sym (field.get_rest s ∙ ap closed is)) ∙ field.put_get (rest s)) in
      (λ i. here i ∷ below i) ∙ ap (λ k. field.over (f k) (first s) ∷ rows n (rest s)) (sym count)

  pub rows_set : (n : ℕ) (s : Stacks) (b : Bool) (f : ℕ → Table X → Table X) → length (field.get s) ≡ suc n
      → rows (suc n) (field.put (set b f (field.get s)) s) ≡ set b (λ m. field.over (f m)) (rows (suc n) s)
  rows_set n s true f tall = rows_all (suc n) s (field.get s) (f 1) refl tall
  rows_set n s false f tall = rows_innermost n s (field.get s) f refl tall

  -- a change of those from one on
  pub rows_from : (n : ℕ) (s : Stacks) (ts : List (Table X)) (m : ℕ) (f : Table X → Table X) → field.get s ≡ ts → length ts ≡ n
      → rows n (field.put (in_those_from m f ts) s) ≡ in_those_from m (field.over f) (rows n s)
  rows_from zero s ts m f is tall = refl
  rows_from (suc n) s [] m f is tall = absurd (omega arith)
  rows_from (suc n) s (t ∷ ts) m f is tall =
      let count : length (rows n (rest s)) + 1 ≡ length ts + 1 = let e = length-rows n (rest s) in omega arith in
      ⊎_elim
      (λ past. ap (λ us. rows (suc n) (field.put us s)) (from_outer m f t ts past ∙ sym is) ∙ ap (rows (suc n)) (field.put_get s)
      ∙ sym (from_outer m (field.over f) (first s) (rows n (rest s)) (omega arith)))
      (λ within.
      let below = field.get_rest s ∙ ap closed is in
      let here = field.first_put (f t ∷ in_those_from m f ts) s f (sym (ap (λ us. f (innermost us)) is)) in
      let others = ap (rows n) (field.rest_put (f t ∷ in_those_from m f ts) s) ∙ rows_from n (rest s) ts m f below (omega arith) in
      ap (λ us. rows (suc n) (field.put us s)) (from_inner m f t ts (omega arith))
      ∙ (λ i. here i ∷ others i)
      ∙ sym (from_inner m (field.over f) (first s) (rows n (rest s)) (omega arith)))
      (cases_lt (length ts + 1) m)

-- ---- the stacks

abbrev pub ints : Field ℤ
ints = record {
  get = λ s. s.ints;
  put = λ ts s. record s { ints = ts };
  over = λ f e. record e { ints = f e.ints };
  first_put = λ ts s f is i. record (first s) { ints = is i };
  rest_put = λ ts s. refl;
  get_rest = λ s. refl;
  put_get = λ s. refl;
}

abbrev pub dims : Field Sp
dims = record {
  get = λ s. s.dims;
  put = λ ts s. record s { dims = ts };
  over = λ f e. record e { dims = f e.dims };
  first_put = λ ts s f is i. record (first s) { dims = is i };
  rest_put = λ ts s. refl;
  get_rest = λ s. refl;
  put_get = λ s. refl;
}

abbrev pub glues : Field Glue
glues = record {
  get = λ s. s.glues;
  put = λ ts s. record s { glues = ts };
  over = λ f e. record e { glues = f e.glues };
  first_put = λ ts s f is i. record (first s) { glues = is i };
  rest_put = λ ts s. refl;
  get_rest = λ s. refl;
  put_get = λ s. refl;
}

abbrev pub toks : Field (List Token)
toks = record {
  get = λ s. s.toks;
  put = λ ts s. record s { toks = ts };
  over = λ f e. record e { toks = f e.toks };
  first_put = λ ts s f is i. record (first s) { toks = is i };
  rest_put = λ ts s. refl;
  get_rest = λ s. refl;
  put_get = λ s. refl;
}

abbrev pub boxes : Field (Option BoxTree)
boxes = record {
  get = λ s. s.boxes;
  put = λ ts s. record s { boxes = ts };
  over = λ f e. record e { boxes = f e.boxes };
  first_put = λ ts s f is i. record (first s) { boxes = is i };
  rest_put = λ ts s. refl;
  get_rest = λ s. refl;
  put_get = λ s. refl;
}

abbrev pub cats : Field Category
cats = record {
  get = λ s. s.cats;
  put = λ ts s. record s { cats = ts };
  over = λ f e. record e { cats = f e.cats };
  first_put = λ ts s f is i. record (first s) { cats = is i };
  rest_put = λ ts s. refl;
  get_rest = λ s. refl;
  put_get = λ s. refl;
}

abbrev pub kinds : Field Kind
kinds = record {
  get = λ s. s.kinds;
  put = λ ts s. record s { kinds = ts };
  over = λ f e. record e { kinds = f e.kinds };
  first_put = λ ts s f is i. record (first s) { kinds = is i };
  rest_put = λ ts s. refl;
  get_rest = λ s. refl;
  put_get = λ s. refl;
}

abbrev pub spacings : Field ℕ
spacings = record {
  get = λ s. s.spacings;
  put = λ ts s. record s { spacings = ts };
  over = λ f e. record e { spacings = f e.spacings };
  first_put = λ ts s f is i. record (first s) { spacings = is i };
  rest_put = λ ts s. refl;
  get_rest = λ s. refl;
  put_get = λ s. refl;
}

abbrev pub penalties : Field CharPenalty
penalties = record {
  get = λ s. s.penalties;
  put = λ ts s. record s { penalties = ts };
  over = λ f e. record e { penalties = f e.penalties };
  first_put = λ ts s f is i. record (first s) { penalties = is i };
  rest_put = λ ts s. refl;
  get_rest = λ s. refl;
  put_get = λ s. refl;
}

abbrev pub meanings : Field Meaning
meanings = record {
  get = λ s. s.meanings;
  put = λ ts s. record s { meanings = ts };
  over = λ f e. record e { meanings = f e.meanings };
  first_put = λ ts s f is i. record (first s) { meanings = is i };
  rest_put = λ ts s. refl;
  get_rest = λ s. refl;
  put_get = λ s. refl;
}

abbrev pub selected : Field FontNo
selected = record {
  get = λ s. s.selected;
  put = λ ts s. record s { selected = ts };
  over = λ f e. record e { selected = f e.selected };
  first_put = λ ts s f is i. record (first s) { selected = is i };
  rest_put = λ ts s. refl;
  get_rest = λ s. refl;
  put_get = λ s. refl;
}

-- ---- what calls leave

-- the value that an Env stands for, with these stacks
abbrev pub with_stacks : Inside → Stacks → Nest
with_stacks e s = record (nest_of e) { environments = rows (suc (length e.groups.items)) s }

module _ {X : Type 0} (field : Field X) where
  -- a setting at a place
  pub set_at : (e : Inside) (place : ℕ) (value : X) (b : Bool) (new : List (Table X)) → new ≡ with_set place value b (field.get (stacks e))
      → length (field.get (stacks e)) ≡ suc (length e.groups.items)
      → setting b (λ m. field.over (put place value m)) (nest_of e) ≡ with_stacks e (field.put new (stacks e))
  set_at e place value b new is tall =
      let changed = ap (λ ts. rows (suc (length e.groups.items)) (field.put ts (stacks e))) is ∙ rows_set field _ (stacks e) b (put place value) tall in
      λ i. record (nest_of e) { environments = sym changed i }

  -- a setting at the place that a key has
  pub set_by : (e : Inside) (place : ℕ) (value : X) (b : Bool) (new : List (Table X)) (at : Result ℕ EnvFault) → Ok place ≡ at
      → new ≡ with_set place value b (field.get (stacks e)) → length (field.get (stacks e)) ≡ suc (length e.groups.items)
      → (at >>= λ p. Ok (setting b (λ m. field.over (put p value m)) (nest_of e))) ≡ Ok (with_stacks e (field.put new (stacks e)))
  set_by e place value b new at found is tall =
      ap (λ r. r >>= λ p. Ok (setting b (λ m. field.over (put p value m)) (nest_of e))) (sym found) ∙ ap Ok (set_at e place value b new is tall)

  -- a setting of the value that a number stands for
  pub set_to : (e : Inside) (place : ℕ) (value : X) (b : Bool) (new : List (Table X)) (of : Result X EnvFault) → of ≡ Ok value
      → new ≡ with_set place value b (field.get (stacks e)) → length (field.get (stacks e)) ≡ suc (length e.groups.items)
      → (of >>= λ v. Ok (setting b (λ m. field.over (put place v m)) (nest_of e))) ≡ Ok (with_stacks e (field.put new (stacks e)))
  set_to e place value b new of stands is tall =
      ap (λ r. r >>= λ v. Ok (setting b (λ m. field.over (put place v m)) (nest_of e))) stands ∙ ap Ok (set_at e place value b new is tall)

-- a present box is changed
abbrev pub replaced_in : Inside → ℕ → Option BoxTree → Nest
replaced_in e place value =
    let m = member_at (innermost e.boxes) place in
    record (nest_of e) { environments = in_those_from m (λ env. record env { boxes = put place value m env.boxes }) (nest_of e).environments }

pub replaced_at : (e : Inside) (place : ℕ) (value : Option BoxTree) (new : List (Table (Option BoxTree))) (at : Result ℕ EnvFault) → Ok place ≡ at
    → new ≡ with_replaced place value e.boxes → length e.boxes ≡ suc (length e.groups.items)
    → (at >>= λ p. Ok (replaced_in e p value)) ≡ Ok (with_stacks e (record (stacks e) { boxes = new }))
replaced_at e place value new at found is tall =
    let m = member_at (innermost e.boxes) place in
    let n = suc (length e.groups.items) in
    let changed = ap (λ ts. rows n (record (stacks e) { boxes = ts })) is ∙ rows_from boxes n (stacks e) e.boxes m (put place value m) refl tall in
    ap (λ r. r >>= λ p. Ok (replaced_in e p value)) (sym found) ∙ (λ i. Ok (record (nest_of e) { environments = sym changed i }))

-- ---- groups

-- each stack under one more group
abbrev pub each_opened : Stacks → Stacks
each_opened s = record {
  ints = opened s.ints;
  dims = opened s.dims;
  glues = opened s.glues;
  toks = opened s.toks;
  boxes = opened s.boxes;
  cats = opened s.cats;
  kinds = opened s.kinds;
  spacings = opened s.spacings;
  penalties = opened s.penalties;
  meanings = opened s.meanings;
  selected = opened s.selected;
}

module _ {X : Type 0} where
  closed_opened : (n : ℕ) (ts : List (Table X)) → length ts ≡ suc n → closed (opened ts) ≡ ts
  closed_opened n [] tall = absurd (omega arith)
  closed_opened n (t ∷ ts) tall = refl

  innermost_opened : (ts : List (Table X)) → innermost (opened ts) ≡ innermost ts
  innermost_opened [] = refl
  innermost_opened (t ∷ ts) = refl

pub rows_opened : (n : ℕ) (s : Stacks) → AreTall (suc n) s → rows (suc (suc n)) (each_opened s) ≡ opened (rows (suc n) s)
rows_opened n s tall =
    let here : first (each_opened s) ≡ first s = λ i. record {
      ints = innermost_opened s.ints i;
      dims = innermost_opened s.dims i;
      glues = innermost_opened s.glues i;
      toks = innermost_opened s.toks i;
      boxes = innermost_opened s.boxes i;
      cats = innermost_opened s.cats i;
      kinds = innermost_opened s.kinds i;
      spacings = innermost_opened s.spacings i;
      penalties = innermost_opened s.penalties i;
      meanings = innermost_opened s.meanings i;
      selected = innermost_opened s.selected i;
    } in
    let below : rest (each_opened s) ≡ s = λ i. record {
      ints = closed_opened n s.ints tall.ints i;
      dims = closed_opened n s.dims tall.dims i;
      glues = closed_opened n s.glues tall.glues i;
      toks = closed_opened n s.toks tall.toks i;
      boxes = closed_opened n s.boxes tall.boxes i;
      cats = closed_opened n s.cats tall.cats i;
      kinds = closed_opened n s.kinds tall.kinds i;
      spacings = closed_opened n s.spacings tall.spacings i;
      penalties = closed_opened n s.penalties tall.penalties i;
      meanings = closed_opened n s.meanings tall.meanings i;
      selected = closed_opened n s.selected tall.selected i;
    } in
    λ i. here i ∷ rows (suc n) (below i)

-- a group is opened
abbrev pub opened_in : Inside → List GroupKind → Nest
opened_in e groups = record (nest_of e) { environments = rows (suc (length groups)) (each_opened (stacks e)); groups = reverse groups }

pub opens : (e : Inside) (kind : GroupKind) (groups : List GroupKind) → groups ≡ e.groups.items ++ kind ∷ [] → length e.groups.items < most_groups
    → AreTall (suc (length e.groups.items)) (stacks e) → group_opened (nest_of e) kind ≡ Ok (opened_in e groups)
opens e kind groups is few tall =
    let old = e.groups.items in
    let n = length old in
    let count = length-reverse old in
    let there = record (nest_of e) { environments = opened (nest_of e).environments; groups = kind ∷ reverse old } in
    let room = lt-leb most_groups (length (reverse old)) (omega arith) in
    let names : kind ∷ reverse old ≡ reverse groups = sym (ap reverse is ∙ reverse-append old (kind ∷ [])) in
    let longer : suc (suc n) ≡ suc (length groups) = ap suc (sym (ap length is ∙ length_push old kind ∙ omega arith)) in
    let rows_are = sym (rows_opened n (stacks e) tall) ∙ ap (λ k. rows k (each_opened (stacks e))) longer in
    ap (λ b. cond b (Err GroupsFull) (Ok there)) room
    ∙ (λ i. Ok (record (nest_of e) { environments = rows_are i; groups = names i }))
