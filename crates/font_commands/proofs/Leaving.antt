-- What the commands of fonts leave is no more than what was there.
use Rattle.std.proofs.Common.{◌≤◌, ◌<◌, ℕ, Bool, true, false, List, Result, Ok, Err, arith}
use Rattle.std.specs.Prelude.{IfOk, if◌then◌else◌}
use Rattle.ts_base.specs.Agreement.{◌>>=◌, with_fault}
use Rattle.ts_outside.specs.States.{Held}
use Rattle.box_tree.specs.declared.item.FontNo.{FontNo}
use Rattle.tok_lists.specs.declared.token.NameNo.{NameNo}
use Rattle.env_groups.specs.declared.meaning.Meaning.{Meaning}
use Rattle.env_groups.specs.declared.meaning.Meaning.TheVariants as meanings
use Rattle.env_groups.specs.declared.prim.PrimitiveName.TheVariants.{Relax}
use Rattle.mouth.specs.Sizes.{size}
use Rattle.scan_syntax.specs.declared.want.Want.{Want}
use Rattle.scan_syntax.specs.declared.want.Want.TheVariants as wants
use Rattle.scan_syntax.specs.declared.word.Word.{Word}
use Rattle.scan_syntax.specs.declared.word.Word.TheVariants as words
use Rattle.font_store.specs.declared.fonts.Font.{Font}
use Rattle.expander.specs.Worlds.{World, world}
use Rattle.assignments.specs.Worlds.{Outcome, stopped, refused}
use Rattle.assignments.specs.Reads.{scanned}
use Rattle.assignments.specs.Values.{integer, dimension, equals, keyword}
use Rattle.assignments.specs.Seeking.{name}
use Rattle.assignments.specs.Namings.{meaning_stored}
use Rattle.font_commands.specs.Names.{name_found, font_name}
use Rattle.font_commands.specs.Sizings.{size_at, size_scaled, scaled_if, scale_said, at_if, size_said}
use Rattle.font_commands.specs.Fonts.{Naming, font_wanted, naming_read, font_named, named_in, font_defined, font_chosen, font_used}

abbrev Leaves : ℕ → Outcome World → Type 0
Leaves n given = IfOk given (λ w. size w.at ≤ n)

abbrev Gives : {X : Type 0} → ℕ → Outcome (X × World) → Type 0
Gives n given = IfOk given (λ t. size t.1.at ≤ n)

abbrev left : World → ℕ
left w = size w.at

abbrev left_with : {X : Type 0} → X × World → ℕ
left_with t = size t.1.at

if_weaker : {X E : Type 0} (a : Result X E) (P Q : X → Type 0) → IfOk a P → ((x : X) → P x → Q x) → IfOk a Q
if_weaker (Ok x) P Q has goes = goes x has
if_weaker (Err e) P Q has goes = tt

then_leaves : {X Y E : Type 0} (before : X → ℕ) (after : Y → ℕ) (n : ℕ) (first : Result X E) (more : X → Result Y E) → IfOk first (λ x. before x ≤ n) → ((x : X) → IfOk (more x) (λ y. after y ≤ before x))
    → IfOk (first >>= more) (λ y. after y ≤ n)
then_leaves before after n (Ok x) more few goes = if_weaker (more x) (λ y. after y ≤ before x) _ (goes x) (λ y fewer. omega (arith, few, fewer))
then_leaves before after n (Err e) more few goes = tt

either_leaves : {Y E : Type 0} (b : Bool) (one other : Result Y E) (P : Y → Type 0) → IfOk one P → IfOk other P → IfOk (if b then one else other) P
either_leaves true one other P first second = first
either_leaves false one other P first second = second

made_leaves : {X Y E : Type 0} (r : Result X E) (y : X → Y) (after : Y → ℕ) (n : ℕ) → ((x : X) → after (y x) ≤ n) → IfOk (r >>= λ x. Ok (y x)) (λ v. after v ≤ n)
made_leaves (Ok x) y after n few = few x
made_leaves (Err e) y after n few = tt

named_leaves : (held : List Held) (is_global : Bool) (fonts : List Font) (n : Naming × World) → Gives (size n.1.at) (named_in held is_global fonts n)
named_leaves held is_global fonts n = made_leaves (with_fault (stopped n.1) (font_named held n.0 is_global fonts n.1.nest)) (λ p. (p.0, world n.1.at p.1)) left_with (size n.1.at) (λ p. omega arith)

pub used_leaves : (font : FontNo) (is_global : Bool) (fonts : List Font) (w : World) → Leaves (size w.at) (font_used font is_global fonts w)
unfolding font_used
used_leaves font is_global fonts w = made_leaves (with_fault (stopped w) (font_chosen font is_global fonts w.nest)) (λ nest. world w.at nest) left (size w.at) (λ nest. omega arith)

-- ---- what assignments promise of readings

abbrev pub NamesFall : Type 0
NamesFall = (w : World) → IfOk (name w) (λ n. size n.1.at < size w.at)

abbrev pub ScansLeave : Type 0
ScansLeave = (want : Want) (w : World) → IfOk (scanned want w) (λ v. size v.1.at ≤ size w.at)

abbrev pub IntegersLeave : Type 0
IntegersLeave = (w : World) → IfOk (integer w) (λ n. size n.1.at ≤ size w.at)

abbrev pub DimensionsLeave : Type 0
DimensionsLeave = (w : World) → IfOk (dimension w) (λ d. size d.1.at ≤ size w.at)

abbrev pub EqualsLeave : Type 0
EqualsLeave = (w : World) → IfOk (equals w) (λ v. size v.at ≤ size w.at)

abbrev pub KeywordsLeave : Type 0
KeywordsLeave = (word : Word) (w : World) → IfOk (keyword word w) (λ k. size k.1.at ≤ size w.at)

abbrev pub StoringLeaves : Type 0
StoringLeaves = (number : NameNo) (meaning : Meaning) (is_global : Bool) (w : World) → IfOk (meaning_stored number meaning is_global w) (λ v. size v.at ≤ size w.at)

module _ (names_fall : NamesFall) (scans : ScansLeave) (integers : IntegersLeave) (dimensions : DimensionsLeave) (equals_leave : EqualsLeave) (keywords : KeywordsLeave) (storing : StoringLeaves) where
  name_leaves : (w : World) → Gives (size w.at) (font_name w)
  unfolding font_name
  name_leaves w = then_leaves left_with left_with (size w.at) (scanned wants.FileName w) _ (scans wants.FileName w) (λ v.
      made_leaves (with_fault (λ kind. refused kind v.1) (name_found v.0)) (λ n. (n, v.1)) left_with (size v.1.at) (λ n. omega arith))

  at_leaves : (w : World) → Gives (size w.at) (size_at w)
  at_leaves w = then_leaves left_with left_with (size w.at) (dimension w) _ (dimensions w) (λ d. omega arith)

  scaled_leaves : (w : World) → Gives (size w.at) (size_scaled w)
  scaled_leaves w = then_leaves left_with left_with (size w.at) (integer w) _ (integers w) (λ n. omega arith)

  scale_leaves : (w : World) → Gives (size w.at) (scale_said w)
  unfolding scale_said
  scale_leaves w = then_leaves left_with left_with (size w.at) (keyword words.Scaled w) scaled_if (keywords words.Scaled w) (λ k. either_leaves k.0 _ _ _ (scaled_leaves k.1) (omega arith))

  size_leaves : (w : World) → Gives (size w.at) (size_said w)
  unfolding size_said
  size_leaves w = then_leaves left_with left_with (size w.at) (keyword words.At w) at_if (keywords words.At w) (λ k. either_leaves k.0 _ _ _ (at_leaves k.1) (scale_leaves k.1))

  wanted_leaves : (w : World) → Gives (size w.at) (font_wanted w)
  unfolding font_wanted
  wanted_leaves w = then_leaves left left_with (size w.at) (equals w) _ (equals_leave w) (λ v.
      then_leaves left_with left_with (size v.at) (font_name v) _ (name_leaves v) (λ n.
      then_leaves left_with left_with (size n.1.at) (size_said n.1) _ (size_leaves n.1) (λ s. omega arith)))

  naming_leaves : (is_global : Bool) (w : World) → Gives (size w.at) (naming_read is_global w)
  unfolding naming_read
  naming_leaves is_global w = then_leaves left_with left_with (size w.at) (name w) _ (if_weaker (name w) (λ n. size n.1.at < size w.at) _ (names_fall w) (λ n less. omega (arith, less))) (λ n.
      then_leaves left left_with (size n.1.at) (meaning_stored n.0 (meanings.Primitive Relax) is_global n.1) _ (storing n.0 (meanings.Primitive Relax) is_global n.1) (λ v.
      then_leaves left_with left_with (size v.at) (font_wanted v) _ (wanted_leaves v) (λ f. omega arith)))

  pub defined_leaves : (held : List Held) (is_global : Bool) (fonts : List Font) (w : World) → Gives (size w.at) (font_defined held is_global fonts w)
  unfolding font_defined
  defined_leaves held is_global fonts w = then_leaves left_with left_with (size w.at) (naming_read is_global w) _ (naming_leaves is_global w) (λ n. named_leaves held is_global fonts n)
