-- Proofs of the laws of environments.
use Rattle.std.proofs.Common.{◌≡◌, ◌<◌, ◌≤◌, ℕ, zero, suc, ◌+◌, ℤ, pos, negsuc, List, [], ◌∷◌, length, Option, Some, None, Result, Ok, Err, Bool, true, false, cond, refl, sym, ap, ◌∙◌, arith}
use Rattle.std.proofs.lemmas.Bool.{eqb-true}
use Rattle.std.specs.Option.{unwrap_or, ok_or}
use Rattle.std.specs.Prelude.{slice_get, drop}
use Rattle.ts_base.specs.Agreement.{◌>>=◌, followed_by}
use Rattle.ts_geometry.specs.declared.glue.Glue.{Glue}
use Rattle.ts_geometry.specs.declared.measure.Sp.{Sp}
use Rattle.tok_lists.specs.declared.token.Token.{Token}
use Rattle.box_tree.specs.declared.item.FontNo.{FontNo}
use Rattle.box_tree.specs.Trees.{BoxTree}
use Rattle.layered_tables.specs.Environments.{opened, closed, set, in_all, in_innermost, in_those_from}
use Rattle.layered_tables.specs.Tables.{Table, value_at, member_at, member_of, put}
use Rattle.layered_tables.proofs.Values.{value_there}
use Rattle.layered_tables.proofs.Writing.{get-write_there}
use Rattle.env_groups.specs.declared.code.Category.{Category}
use Rattle.env_groups.specs.declared.code.Category.TheVariants.{Escape, BeginGroup, EndGroup, MathShift, Alignment, EndOfLine, Parameter, Superscript, Subscript, Ignored, Space, Letter, Other, Active, Comment, Invalid}
use Rattle.env_groups.specs.declared.code.Kind.{Kind}
use Rattle.env_groups.specs.declared.code.Kind.TheVariants.{Kanji, Kana, OtherKchar}
use Rattle.env_groups.specs.declared.code.CodeKey.{CodeKey}
use Rattle.env_groups.specs.declared.code.CodeKey.TheVariants.{Cat, Kcat, Xsp, InhibitXsp, Pre, Post}
use Rattle.env_groups.specs.declared.code.CharPenalty.TheVariants as penalties
use Rattle.env_groups.specs.declared.fault.EnvFault.{EnvFault}
use Rattle.env_groups.specs.declared.fault.EnvFault.TheVariants.{CodeRange, GroupsFull, GroupEnd}
use Rattle.env_groups.specs.declared.font.FontSlot.{FontSlot}
use Rattle.env_groups.specs.declared.group.GroupKind.{GroupKind}
use Rattle.env_groups.specs.declared.group.GroupKind.TheVariants.{Simple, Semi, Box, Output}
use Rattle.env_groups.specs.declared.key.IntKey.{IntKey}
use Rattle.env_groups.specs.declared.key.DimKey.{DimKey}
use Rattle.env_groups.specs.declared.key.GlueKey.{GlueKey}
use Rattle.env_groups.specs.declared.key.ToksKey.{ToksKey}
use Rattle.env_groups.specs.declared.meaning.Meaning.{Meaning}
use Rattle.env_groups.specs.Groups.{same_kind}
use Rattle.env_groups.specs.Fonts.{slot_place}
use Rattle.env_groups.specs.Places.{int_place, dim_place, glue_place, toks_place, box_place, int_start, dim_start, glue_start}
use Rattle.env_groups.specs.CharCodes.{categories, category_of, category_number, start_category, kind_of, kind_number, start_kind, spacing_of, start_xsp, start_inhibit_xsp, penalty_of, pre_of, post_of, char_place, cell_place}
use Rattle.env_groups.specs.StartMeanings.{start_meaning}
use Rattle.env_groups.specs.Environments.{Environment, Nest, setting, present, is_innermost, box_at, int_at, int_set, dim_at, dim_set, glue_at, glue_set, toks_at, toks_set, box_set, code_at, code_set, meaning_at, meaning_set, font_at, font_set}
use Rattle.env_groups.specs.Laws.{closed_times, opened_times, changed, Stays, WhatIsLocalGoes, WhatIsReplacedStays}
use Rattle.env_groups.proofs.Rows.{from_inner, from_outer}

-- ---- what is local goes

closed_first : (f : ℕ → Environment → Environment) (es : List Environment) → closed (in_innermost f es) ≡ closed es
closed_first f [] = refl
closed_first f (e ∷ es) = refl

closed_opened : (es : List Environment) → closed (opened es) ≡ es
closed_opened [] = refl
closed_opened (e ∷ es) = refl

-- the others stay
abbrev below : Nest → Nest
below nest = record nest { environments = closed nest.environments }

keeps_below : (changes : List (ℕ → Environment → Environment)) (nest : Nest) → below (changed changes nest) ≡ below nest
keeps_below [] nest = refl
keeps_below (f ∷ fs) nest = keeps_below fs (setting false f nest) ∙ (λ i. record nest { environments = closed_first f nest.environments i })

abbrev opened_as : Nest → GroupKind → Nest
opened_as nest kind = record nest { environments = opened nest.environments; groups = kind ∷ nest.groups }

opened_is : (b : Bool) (nest inner : Nest) → cond b (Err GroupsFull) (Ok nest) ≡ Ok inner → inner ≡ nest
opened_is true nest inner is = absurd cc
opened_is false nest inner is = cc

same_itself : (kind : GroupKind) → same_kind kind kind ≡ true
same_itself Simple = refl
same_itself Semi = refl
same_itself Box = refl
same_itself Output = refl

-- the end of a group, where the environments are already those of the others
abbrev ends : Nest → GroupKind → Result Nest EnvFault
ends nest kind = cond (is_innermost kind nest.groups) (Ok (record nest { groups = drop 1 nest.groups })) (Err GroupEnd)

pub what_is_local_goes : WhatIsLocalGoes
what_is_local_goes kind changes nest inner is =
    ap (λ n. ends n kind) (keeps_below changes inner)
    ∙ ap (λ n. ends (below n) kind) (opened_is _ (opened_as nest kind) inner is)
    ∙ ap (λ b. cond b (Ok (record nest { environments = closed (opened nest.environments) })) (Err GroupEnd)) (same_itself kind)
    ∙ (λ i. Ok (record nest { environments = closed_opened nest.environments i }))

-- ---- what is global stays

module _ {X : Type 0} (read : Environment → Table X) (over : (Table X → Table X) → Environment → Environment)
    (law : (f : Table X → Table X) (e : Environment) → read (over f e) ≡ f (read e)) where
  -- where each environment has a value, so have the inner ones after any number of closings
  stays : (n place : ℕ) (value : X) (nest : Nest) (es : List Environment) → n < length es → nest.environments ≡ in_all (over (put place value 1)) es
      → value_at (read (present (closed_times n nest))) place ≡ Some value
  stays n place value nest [] within is = absurd (omega arith)
  stays zero place value nest (e ∷ es) within is =
      ap (λ es. value_at (read (present (record nest { environments = es }))) place) is
      ∙ ap (λ t. value_at t place) (law (put place value 1) e) ∙ value_there place value 1 (read e)
  stays (suc n) place value nest (e ∷ es) within is =
      stays n place value (record nest { environments = closed nest.environments }) es (omega arith) (ap closed is)

  abbrev globally : Nest → ℕ → X → Nest
  globally nest place value = setting true (λ m. over (put place value m)) nest

  stays_after : (n place : ℕ) (value : X) (nest after : Nest) → n < length nest.environments → globally nest place value ≡ after
      → value_at (read (present (closed_times n after))) place ≡ Some value
  stays_after n place value nest after within is = stays n place value after nest.environments within (ap (λ n. n.environments) (sym is))

  -- at the place that a key has
  stays_by : (found : Result ℕ EnvFault) (value start : X) (nest after : Nest) (n : ℕ) → (found >>= λ p. Ok (globally nest p value)) ≡ Ok after
      → n < length nest.environments → (found >>= λ p. Ok (unwrap_or (value_at (read (present (closed_times n after))) p) start)) ≡ Ok value
  stays_by (Ok p) value start nest after n is within =
      let same : globally nest p value ≡ after = cc in ap (λ o. Ok (unwrap_or o start)) (stays_after n p value nest after within same)
  stays_by (Err e) value start nest after n is within = absurd cc

  -- without a refusal
  stays_at : {Y : Type 0} (look : Option X → Y) (place : ℕ) (value : X) (nest after : Nest) (n : ℕ) → ◌≡◌ {A = Result Nest EnvFault} (Ok (globally nest place value)) (Ok after)
      → n < length nest.environments → look (value_at (read (present (closed_times n after))) place) ≡ look (Some value)
  stays_at look place value nest after n is within =
      let same : globally nest place value ≡ after = cc in ap look (stays_after n place value nest after within same)

  -- where a number stands for the value
  stays_as : {A : Type 0} (found : Option A) (view : A → X) (look : Option X → ℤ) (value : ℤ) (place : ℕ) → ((a : A) → found ≡ Some a → look (Some (view a)) ≡ value)
      → (nest after : Nest) (n : ℕ) → (ok_or found CodeRange >>= λ a. Ok (globally nest place (view a))) ≡ Ok after → n < length nest.environments
      → look (value_at (read (present (closed_times n after))) place) ≡ value
  stays_as (Some a) view look value place back nest after n is within =
      let same : globally nest place (view a) ≡ after = cc in ap look (stays_after n place (view a) nest after within same) ∙ back a refl
  stays_as None view look value place back nest after n is within = absurd cc

pub int_stays : (nest : Nest) (key : IntKey) (value : ℤ) → Stays nest (int_set nest key value true) (λ n. int_at n key) (Ok value)
int_stays nest key value n after is within =
    stays_by (λ e. e.ints) (λ f e. record e { ints = f e.ints }) (λ f e. refl) (int_place key) value (int_start key) nest after n is within

pub dim_stays : (nest : Nest) (key : DimKey) (value : Sp) → Stays nest (dim_set nest key value true) (λ n. dim_at n key) (Ok value)
dim_stays nest key value n after is within =
    stays_by (λ e. e.dims) (λ f e. record e { dims = f e.dims }) (λ f e. refl) (dim_place key) value (dim_start key) nest after n is within

pub glue_stays : (nest : Nest) (key : GlueKey) (value : Glue) → Stays nest (glue_set nest key value true) (λ n. glue_at n key) (Ok value)
glue_stays nest key value n after is within =
    stays_by (λ e. e.glues) (λ f e. record e { glues = f e.glues }) (λ f e. refl) (glue_place key) value (glue_start key) nest after n is within

pub toks_stays : (nest : Nest) (key : ToksKey) (value : List Token) → Stays nest (toks_set nest key value true) (λ n. toks_at n key) (Ok value)
toks_stays nest key value n after is within =
    stays_by (λ e. e.toks) (λ f e. record e { toks = f e.toks }) (λ f e. refl) (toks_place key) value [] nest after n is within

pub box_stays : (nest : Nest) (register : ℕ) (value : Option BoxTree) → Stays nest (box_set nest register value true) (λ n. box_at n register) (Ok value)
box_stays nest register value n after is within =
    stays_by (λ e. e.boxes) (λ f e. record e { boxes = f e.boxes }) (λ f e. refl) (box_place register) value None nest after n is within

pub meaning_stays : (nest : Nest) (name : ℕ) (value : Meaning) → Stays nest (Ok (meaning_set nest name value true)) (λ n. meaning_at n name) value
meaning_stays nest name value n after is within =
    stays_at (λ e. e.meanings) (λ f e. record e { meanings = f e.meanings }) (λ f e. refl) (λ o. unwrap_or o (start_meaning name)) name value nest after n is within

pub font_stays : (nest : Nest) (slot : FontSlot) (value : FontNo) → Stays nest (Ok (font_set nest slot value true)) (λ n. font_at n slot) (Some value)
font_stays nest slot value n after is within =
    stays_at (λ e. e.selected) (λ f e. record e { selected = f e.selected }) (λ f e. refl) (λ o. o) (slot_place slot) value nest after n is within

-- the number of what a number stands for

category_back_at : (n : ℕ) (c : Category) → slice_get categories n ≡ Some c → category_number c ≡ n
category_back_at zero c is = let same : Escape ≡ c = cc in ap category_number (sym same)
category_back_at (suc zero) c is = let same : BeginGroup ≡ c = cc in ap category_number (sym same)
category_back_at (suc (suc zero)) c is = let same : EndGroup ≡ c = cc in ap category_number (sym same)
category_back_at (suc (suc (suc zero))) c is = let same : MathShift ≡ c = cc in ap category_number (sym same)
category_back_at (suc (suc (suc (suc zero)))) c is = let same : Alignment ≡ c = cc in ap category_number (sym same)
category_back_at (suc (suc (suc (suc (suc zero))))) c is = let same : EndOfLine ≡ c = cc in ap category_number (sym same)
category_back_at (suc (suc (suc (suc (suc (suc zero)))))) c is = let same : Parameter ≡ c = cc in ap category_number (sym same)
category_back_at (suc (suc (suc (suc (suc (suc (suc zero))))))) c is = let same : Superscript ≡ c = cc in ap category_number (sym same)
category_back_at (suc (suc (suc (suc (suc (suc (suc (suc zero)))))))) c is = let same : Subscript ≡ c = cc in ap category_number (sym same)
category_back_at (suc (suc (suc (suc (suc (suc (suc (suc (suc zero))))))))) c is = let same : Ignored ≡ c = cc in ap category_number (sym same)
category_back_at (suc (suc (suc (suc (suc (suc (suc (suc (suc (suc zero)))))))))) c is = let same : Space ≡ c = cc in ap category_number (sym same)
category_back_at (suc (suc (suc (suc (suc (suc (suc (suc (suc (suc (suc zero))))))))))) c is = let same : Letter ≡ c = cc in ap category_number (sym same)
category_back_at (suc (suc (suc (suc (suc (suc (suc (suc (suc (suc (suc (suc zero)))))))))))) c is = let same : Other ≡ c = cc in ap category_number (sym same)
category_back_at (suc (suc (suc (suc (suc (suc (suc (suc (suc (suc (suc (suc (suc zero))))))))))))) c is = let same : Active ≡ c = cc in ap category_number (sym same)
category_back_at (suc (suc (suc (suc (suc (suc (suc (suc (suc (suc (suc (suc (suc (suc zero)))))))))))))) c is = let same : Comment ≡ c = cc in ap category_number (sym same)
category_back_at (suc (suc (suc (suc (suc (suc (suc (suc (suc (suc (suc (suc (suc (suc (suc zero))))))))))))))) c is = let same : Invalid ≡ c = cc in ap category_number (sym same)
category_back_at (suc (suc (suc (suc (suc (suc (suc (suc (suc (suc (suc (suc (suc (suc (suc (suc n)))))))))))))))) c is = absurd cc

category_back : (z : ℤ) (c : Category) → category_of z ≡ Some c → pos (category_number c) ≡ z
category_back (pos n) c is = ap pos (category_back_at n c is)
category_back (negsuc n) c is = absurd cc

kind_case : (n : ℕ) (k : Kind) (b c d : Bool) → (b ≡ true → n ≡ 16) → (c ≡ true → n ≡ 17) → (d ≡ true → n ≡ 18)
    → cond b (Some Kanji) (cond c (Some Kana) (cond d (Some OtherKchar) None)) ≡ Some k → kind_number k ≡ n
kind_case n k true c d kanji kana symbol is = let same : Kanji ≡ k = cc in ap kind_number (sym same) ∙ sym (kanji refl)
kind_case n k false true d kanji kana symbol is = let same : Kana ≡ k = cc in ap kind_number (sym same) ∙ sym (kana refl)
kind_case n k false false true kanji kana symbol is = let same : OtherKchar ≡ k = cc in ap kind_number (sym same) ∙ sym (symbol refl)
kind_case n k false false false kanji kana symbol is = absurd cc

kind_back : (z : ℤ) (k : Kind) → kind_of z ≡ Some k → pos (kind_number k) ≡ z
kind_back (pos n) k is = ap pos (kind_case n k _ _ _ (eqb-true n 16) (eqb-true n 17) (eqb-true n 18) is)
kind_back (negsuc n) k is = absurd cc

module _ {X : Type 0} where
  some_if : (b : Bool) (x y : X) → cond b (Some x) None ≡ Some y → y ≡ x
  some_if true x y is = cc
  some_if false x y is = absurd cc

spacing_back : (z : ℤ) (n : ℕ) → spacing_of z ≡ Some n → pos n ≡ z
spacing_back (pos m) n is = ap pos (some_if _ m n is)
spacing_back (negsuc m) n is = absurd cc

penalty_back : (z p : ℤ) → penalty_of z ≡ Some p → p ≡ z
penalty_back z p is = some_if _ z p is

pub code_stays : (nest : Nest) (key : CodeKey) (value : ℤ) → Stays nest (code_set nest key value true) (λ n. code_at n key) value
code_stays nest (Cat c) value n after is within =
    stays_as (λ e. e.cats) (λ f e. record e { cats = f e.cats }) (λ f e. refl) (category_of value) (λ v. v)
    (λ o. pos (category_number (unwrap_or o (start_category c)))) value c (category_back value) nest after n is within
code_stays nest (Kcat k) value n after is within =
    stays_as (λ e. e.kinds) (λ f e. record e { kinds = f e.kinds }) (λ f e. refl) (kind_of value) (λ v. v)
    (λ o. pos (kind_number (unwrap_or o (start_kind k.row)))) value k.row (kind_back value) nest after n is within
code_stays nest (Xsp c) value n after is within =
    stays_as (λ e. e.spacings) (λ f e. record e { spacings = f e.spacings }) (λ f e. refl) (spacing_of value) (λ v. v)
    (λ o. pos (unwrap_or o (start_xsp c))) value c (spacing_back value) nest after n is within
code_stays nest (InhibitXsp k) value n after is within =
    stays_as (λ e. e.spacings) (λ f e. record e { spacings = f e.spacings }) (λ f e. refl) (spacing_of value) (λ v. v)
    (λ o. pos (unwrap_or o start_inhibit_xsp)) value (cell_place k) (spacing_back value) nest after n is within
code_stays nest (Pre c) value n after is within =
    stays_as (λ e. e.penalties) (λ f e. record e { penalties = f e.penalties }) (λ f e. refl) (penalty_of value) (λ v. penalties.Pre v)
    pre_of value (char_place c) (penalty_back value) nest after n is within
code_stays nest (Post c) value n after is within =
    stays_as (λ e. e.penalties) (λ f e. record e { penalties = f e.penalties }) (λ f e. refl) (penalty_of value) (λ v. penalties.Post v)
    post_of value (char_place c) (penalty_back value) nest after n is within

-- ---- what is replaced stays

-- an environment, with so many copies of it before it
copies : ℕ → Environment → List Environment → List Environment
copies zero x xs = x ∷ xs
copies (suc k) x xs = x ∷ copies k x xs

opened_copies : (k : ℕ) (x : Environment) (xs : List Environment) → opened (copies k x xs) ≡ copies (suc k) x xs
unfolding copies
opened_copies zero x xs = refl
opened_copies (suc k) x xs = refl

length-copies : (k : ℕ) (x : Environment) (xs : List Environment) → length xs + 1 ≤ length (copies k x xs)
unfolding copies
length-copies zero x xs = omega arith
length-copies (suc k) x xs = let e = length-copies k x xs in omega arith

opens_copies : (k : ℕ) (x : Environment) (xs : List Environment) (nest : Nest) → nest.environments ≡ x ∷ xs
    → opened_times k nest ≡ record nest { environments = copies k x xs }
unfolding copies
opens_copies zero x xs nest is = λ i. record nest { environments = is i }
opens_copies (suc k) x xs nest is =
    let e = opens_copies k x xs nest is in
    (λ i. let n = e i in record n { environments = opened n.environments }) ∙ (λ i. record nest { environments = opened_copies k x xs i })

closes_copies : (k : ℕ) (x : Environment) (xs : List Environment) (nest : Nest)
    → closed_times k (record nest { environments = copies k x xs }) ≡ record nest { environments = x ∷ xs }
unfolding copies
closes_copies zero x xs nest = refl
closes_copies (suc k) x xs nest = closes_copies k x xs nest

closes_all : (k : ℕ) (x : Environment) (xs : List Environment) (nest : Nest)
    → closed_times (suc k) (record nest { environments = copies k x xs }) ≡ record nest { environments = xs }
unfolding copies
closes_all zero x xs nest = refl
closes_all (suc k) x xs nest = closes_all k x xs nest

below_stays : (m : ℕ) (f : Environment → Environment) (xs : List Environment) → length xs < m → in_those_from m f xs ≡ xs
below_stays m f [] below = refl
below_stays m f (x ∷ xs) below = from_outer m f x xs (omega arith)

changed_copies : (k : ℕ) (f : Environment → Environment) (x : Environment) (xs : List Environment)
    → in_those_from (length xs + 1) f (copies k x xs) ≡ copies k (f x) xs
unfolding copies
changed_copies zero f x xs = from_inner (length xs + 1) f x xs (omega arith) ∙ ap (λ ys. f x ∷ ys) (below_stays (length xs + 1) f xs (omega arith))
changed_copies (suc k) f x xs =
    from_inner (length xs + 1) f x (copies k x xs) (let e = length-copies k x xs in omega arith) ∙ ap (λ ys. f x ∷ ys) (changed_copies k f x xs)

present_copies : (k : ℕ) (x : Environment) (xs : List Environment) (nest : Nest) → present (record nest { environments = copies k x xs }) ≡ x
unfolding copies
present_copies zero x xs nest = refl
present_copies (suc k) x xs nest = refl

abbrev with_box : ℕ → Option BoxTree → ℕ → Environment → Environment
with_box p value m e = record e { boxes = put p value m e.boxes }

-- a present box is changed
abbrev replaced : Nest → ℕ → Option BoxTree → Nest
replaced nest p value =
    let m = member_at (present nest).boxes p in record nest { environments = in_those_from m (λ e. with_box p value m e) nest.environments }

replaced_copies : (k p : ℕ) (value : Option BoxTree) (x : Environment) (xs : List Environment) (nest : Nest) → member_at x.boxes p ≡ length xs + 1
    → replaced (record nest { environments = copies k x xs }) p value ≡ record nest { environments = copies k (with_box p value (length xs + 1) x) xs }
replaced_copies k p value x xs nest home =
    let member : member_at (present (record nest { environments = copies k x xs })).boxes p ≡ length xs + 1 =
    ap (λ y. member_at y.boxes p) (present_copies k x xs nest) ∙ home in
    (λ i. record nest { environments = in_those_from (member i) (λ e. with_box p value (member i) e) (copies k x xs) })
    ∙ (λ i. record nest { environments = changed_copies k (λ e. with_box p value (length xs + 1) e) x xs i })

member_put : (p : ℕ) (value : Option BoxTree) (m : ℕ) (t : Table (Option BoxTree)) → member_at (put p value m t) p ≡ m
member_put p value m t = ap member_of (get-write_there p (Some (record { value = value; member = m })) t)

-- the box is set at a place in a group that is opened, and then changed further in
abbrev set_inside : Nest → ℕ → Option BoxTree → Nest
set_inside nest p first = setting false (λ m e. with_box p first m e) (opened_times 1 nest)

after_replacing : (k p : ℕ) (first value : Option BoxTree) (e : Environment) (es : List Environment) (nest after : Nest) → nest.environments ≡ e ∷ es
    → replaced (opened_times k (set_inside nest p first)) p value ≡ after
    → (value_at (present (closed_times k after)).boxes p ≡ Some value) × (closed_times (suc k) after ≡ nest)
after_replacing k p first value e es nest after is done =
    let m = suc (length es) + 1 in
    let x = with_box p first m e in
    let s = set_inside nest p first in
    let s_is : s.environments ≡ x ∷ e ∷ es = ap (λ env. set false (λ m e. with_box p first m e) (opened env)) is in
    let made : after ≡ record s { environments = copies k (with_box p value m x) (e ∷ es) } =
    sym done ∙ ap (λ inner. replaced inner p value) (opens_copies k x (e ∷ es) s s_is)
    ∙ replaced_copies k p value x (e ∷ es) s (member_put p first m e.boxes) in (
      ap (λ n. value_at (present (closed_times k n)).boxes p) made
          ∙ ap (λ n. value_at (present n).boxes p) (closes_copies k (with_box p value m x) (e ∷ es) s)
          ∙ value_there p value m x.boxes,
      ap (closed_times (suc k)) made
          ∙ closes_all k (with_box p value m x) (e ∷ es) s
          ∙ (λ i. record nest { environments = sym is i }),
    )

replaced_by : (found : Result ℕ EnvFault) (k : ℕ) (first value : Option BoxTree) (e : Environment) (es : List Environment) (nest after : Nest)
    → nest.environments ≡ e ∷ es
    → followed_by (found >>= λ p. Ok (set_inside nest p first)) (λ inner. found >>= λ p. Ok (replaced (opened_times k inner) p value)) ≡ Ok after
    → ((found >>= λ p. Ok (unwrap_or (value_at (present (closed_times k after)).boxes p) None)) ≡ Ok value) × (closed_times (suc k) after ≡ nest)
replaced_by (Ok p) k first value e es nest after is done =
    let same : replaced (opened_times k (set_inside nest p first)) p value ≡ after = cc in
    let both = after_replacing k p first value e es nest after is same in
    (ap (λ o. Ok (unwrap_or o None)) both.0, both.1)
replaced_by (Err fault) k first value e es nest after is done = absurd cc

pub what_is_replaced_stays : WhatIsReplacedStays
what_is_replaced_stays k n first value e es nest after is done = replaced_by (box_place n) k first value e es nest after is done
