-- An environment stays fit for expansion as names come.
use Rattle.std.proofs.Common.{◌≡◌, ℕ, ℤ, List, [], ◌∷◌, Option, Some, None, IfSome, arith, lit≤, Bool, Ok}
use Rattle.tok_lists.specs.declared.spelling.Spelling.{Spelling}
use Rattle.tok_lists.specs.declared.token.Token.{Token}
use Rattle.tok_lists.specs.Names.{Grew, AreHeld}
use Rattle.tok_lists.proofs.Growing.{held_still, all_held_still, grew_longer}
use Rattle.env_groups.specs.declared.meaning.MacroDef.{MacroDef}
use Rattle.env_groups.specs.declared.meaning.Meaning.{Meaning}
use Rattle.env_groups.specs.declared.meaning.Meaning.TheVariants as meanings
use Rattle.env_groups.specs.Environments.{Environment, Nest, start, meaning_at, meaning_set, int_set, dim_set, glue_set, toks_set, box_set, box_replaced, code_set, font_set, group_opened, group_closed, toks_at}
use Rattle.env_groups.specs.StartMeanings.{primitive_or_none, start_prims}
use Rattle.env_groups.specs.declared.prim.PrimitiveName.{PrimitiveName}
use Rattle.env_groups.specs.Laws.{HaveValues}
use Rattle.env_groups.proofs.Keeping.{meaning_has, start_has, meaning_keeps, int_keeps, dim_keeps, glue_keeps, toks_has, toks_keeps, box_keeps, replace_keeps, code_keeps, font_keeps, open_keeps, close_keeps}
use Rattle.ts_geometry.specs.declared.glue.Glue.{Glue}
use Rattle.ts_geometry.specs.declared.measure.Sp.{Sp}
use Rattle.box_tree.specs.Trees.{BoxTree}
use Rattle.box_tree.specs.declared.item.FontNo.{FontNo}
use Rattle.env_groups.specs.declared.font.FontSlot.{FontSlot}
use Rattle.env_groups.specs.declared.code.CodeKey.{CodeKey}
use Rattle.env_groups.specs.declared.key.IntKey.{IntKey}
use Rattle.env_groups.specs.declared.key.DimKey.{DimKey}
use Rattle.env_groups.specs.declared.key.GlueKey.{GlueKey}
use Rattle.env_groups.specs.declared.key.ToksKey.{ToksKey}
use Rattle.env_groups.specs.declared.group.GroupKind.{GroupKind}
use Rattle.tok_lists.specs.StartNames.{start_names}
use Rattle.std.specs.Prelude.{slice_get}
use Rattle.tok_lists.specs.declared.token.Token.TheVariants as tokens
use Rattle.macros.specs.Definitions.{IsDefined}
use Rattle.expander.specs.declared.action.Front.TheVariants as fronts
use Rattle.expander.specs.Actions.{front_as, front_of}
use Rattle.expander.specs.Holding.{IsPlainList, IsCallable, IsFit, HaveRelax, AreFit}

meaning_still : (old new : List Spelling) (m : Meaning) → Grew old new → IsFit old m → IsFit new m
meaning_still old new meanings.Undefined grew fit = tt
meaning_still old new (meanings.Primitive p) grew fit = tt
meaning_still old new (meanings.Macro d) grew fit = record {
  params = all_held_still old new d.params grew fit.params;
  body = all_held_still old new d.body grew fit.body;
  plain = fit.plain;
}
meaning_still old new (meanings.Letter t) grew fit = held_still old new t grew fit
meaning_still old new (meanings.Code n) grew fit = tt
meaning_still old new (meanings.Count n) grew fit = tt
meaning_still old new (meanings.Dimen n) grew fit = tt
meaning_still old new (meanings.Skip n) grew fit = tt
meaning_still old new (meanings.Toks n) grew fit = tt
meaning_still old new (meanings.Font n) grew fit = tt

if_some : {A : Type 0} (P Q : A → Type 0) (o : Option A) → ((a : A) → P a → Q a) → IfSome o P → IfSome o Q
if_some P Q (Some a) goes has = goes a has
if_some P Q None goes has = tt

values_still : (old new : List Spelling) (es : List Environment) → Grew old new → HaveValues (IsFit old) (IsPlainList old) (λ _. Unit {0}) es → HaveValues (IsFit new) (IsPlainList new) (λ _. Unit {0}) es
values_still old new [] grew have = tt
values_still old new (e ∷ es) grew have = (
  record {
    meanings = λ n. if_some (IsFit old) (IsFit new) _ (λ m fit. meaning_still old new m grew fit) (have.0.meanings n);
    toks = λ n. if_some (IsPlainList old) (IsPlainList new) _ (λ list plain. (plain.0, all_held_still old new list grew plain.1)) (have.0.toks n);
    boxes = have.0.boxes;
  },
  values_still old new es grew have.1,
)

pub relax_still : (old new : List Spelling) → Grew old new → HaveRelax old → HaveRelax new
relax_still old new grew have = let longer = grew_longer old new grew in omega (arith, longer, have)

pub fit_still : (old new : List Spelling) (nest : Nest) → Grew old new → AreFit old nest → AreFit new nest
unfolding AreFit
fit_still old new nest grew fit = (relax_still old new grew fit.0, values_still old new nest.environments grew fit.1)

pub fit_relax : (names : List Spelling) (nest : Nest) → AreFit names nest → HaveRelax names
unfolding AreFit
fit_relax names nest fit = fit.0

start_fit : (names : List Spelling) (p : Option PrimitiveName) → IsFit names (primitive_or_none p)
start_fit names (Some p) = tt
start_fit names None = tt

-- What a name means is fit.
pub meaning_fit : (names : List Spelling) (nest : Nest) (n : ℕ) → AreFit names nest → IsFit names (meaning_at nest n)
unfolding AreFit
meaning_fit names nest n fit = meaning_has (IsFit names) (IsPlainList names) (λ _. Unit {0}) nest n fit.1 (start_fit names (slice_get start_prims n))

front_fit : (names : List Spelling) (m : Meaning) (d : MacroDef) → front_as m ≡ fronts.Call d → IsFit names m → IsCallable names d
front_fit names meanings.Undefined d is fit = absurd cc
front_fit names (meanings.Primitive p) d is fit = absurd cc
front_fit names (meanings.Macro e) d is fit = let same : e ≡ d = cc in rw (← same) fit
front_fit names (meanings.Letter t) d is fit = absurd cc
front_fit names (meanings.Code n) d is fit = absurd cc
front_fit names (meanings.Count n) d is fit = absurd cc
front_fit names (meanings.Dimen n) d is fit = absurd cc
front_fit names (meanings.Skip n) d is fit = absurd cc
front_fit names (meanings.Toks n) d is fit = absurd cc
front_fit names (meanings.Font n) d is fit = absurd cc

-- A macro at the front can be called.
pub call_fit : (names : List Spelling) (nest : Nest) (token : Token) (d : MacroDef) → front_of nest token ≡ fronts.Call d → AreFit names nest → IsCallable names d
call_fit names nest (tokens.Char code cat) d is fit = absurd cc
call_fit names nest (tokens.Ja cell) d is fit = absurd cc
call_fit names nest (tokens.Name name) d is fit = front_fit names (meaning_at nest name.0) d is (meaning_fit names nest name.0 fit)
call_fit names nest (tokens.Kept name) d is fit = absurd cc
call_fit names nest (tokens.Param n) d is fit = absurd cc

-- ---- what keeps an environment fit

pub fit_at_start : AreFit start_names start
unfolding AreFit
fit_at_start = (lit≤ tt, start_has (IsFit start_names) (IsPlainList start_names) (λ _. Unit {0}))

pub fit_after_meaning : (names : List Spelling) (nest : Nest) (name : ℕ) (value : Meaning) (is_global : Bool) → IsFit names value → AreFit names nest → AreFit names (meaning_set nest name value is_global)
unfolding AreFit
fit_after_meaning names nest name value is_global of fit = (fit.0, meaning_keeps (IsFit names) (IsPlainList names) (λ _. Unit {0}) nest name value is_global of fit.1)

macro_fit : (names : List Spelling) (d : MacroDef) → IsDefined names d → IsFit names (meanings.Macro d)
macro_fit names d is = record { params = is.params; body = is.body; plain = is.braces }

-- A macro is as its definition made it.
pub fit_after_macro : (names : List Spelling) (nest : Nest) (name : ℕ) (d : MacroDef) (is_global : Bool) → IsDefined names d → AreFit names nest → AreFit names (meaning_set nest name (meanings.Macro d) is_global)
fit_after_macro names nest name d is_global is fit = fit_after_meaning names nest name (meanings.Macro d) is_global (macro_fit names d is) fit

pub fit_after_toks : (names : List Spelling) (old new : Nest) (key : ToksKey) (value : List Token) (is_global : Bool) → toks_set old key value is_global ≡ Ok new → IsPlainList names value → AreFit names old → AreFit names new
unfolding AreFit
fit_after_toks names old new key value is_global is of fit = (fit.0, toks_keeps (IsFit names) (IsPlainList names) (λ _. Unit {0}) old new key value is_global is of fit.1)

pub fit_after_opening : (names : List Spelling) (old new : Nest) (kind : GroupKind) → group_opened old kind ≡ Ok new → AreFit names old → AreFit names new
unfolding AreFit
fit_after_opening names old new kind is fit = (fit.0, open_keeps (IsFit names) (IsPlainList names) (λ _. Unit {0}) old new kind is fit.1)

pub fit_after_closing : (names : List Spelling) (old new : Nest) (kind : GroupKind) → group_closed old kind ≡ Ok new → AreFit names old → AreFit names new
unfolding AreFit
fit_after_closing names old new kind is fit = (fit.0, close_keeps (IsFit names) (IsPlainList names) (λ _. Unit {0}) old new kind is fit.1)

any_box : (value : Option BoxTree) → IfSome value (λ _. Unit {0})
any_box (Some b) = tt
any_box None = tt

pub fit_after_int : (names : List Spelling) (old new : Nest) (key : IntKey) (value : ℤ) (is_global : Bool) → int_set old key value is_global ≡ Ok new → AreFit names old → AreFit names new
unfolding AreFit
fit_after_int names old new key value is_global is fit = (fit.0, int_keeps (IsFit names) (IsPlainList names) (λ _. Unit {0}) old new key value is_global is fit.1)

pub fit_after_dim : (names : List Spelling) (old new : Nest) (key : DimKey) (value : Sp) (is_global : Bool) → dim_set old key value is_global ≡ Ok new → AreFit names old → AreFit names new
unfolding AreFit
fit_after_dim names old new key value is_global is fit = (fit.0, dim_keeps (IsFit names) (IsPlainList names) (λ _. Unit {0}) old new key value is_global is fit.1)

pub fit_after_glue : (names : List Spelling) (old new : Nest) (key : GlueKey) (value : Glue) (is_global : Bool) → glue_set old key value is_global ≡ Ok new → AreFit names old → AreFit names new
unfolding AreFit
fit_after_glue names old new key value is_global is fit = (fit.0, glue_keeps (IsFit names) (IsPlainList names) (λ _. Unit {0}) old new key value is_global is fit.1)

pub fit_after_box : (names : List Spelling) (old new : Nest) (n : ℕ) (value : Option BoxTree) (is_global : Bool) → box_set old n value is_global ≡ Ok new → AreFit names old → AreFit names new
unfolding AreFit
fit_after_box names old new n value is_global is fit = (fit.0, box_keeps (IsFit names) (IsPlainList names) (λ _. Unit {0}) old new n value is_global is (any_box value) fit.1)

pub fit_after_replacing : (names : List Spelling) (old new : Nest) (n : ℕ) (value : Option BoxTree) → box_replaced old n value ≡ Ok new → AreFit names old → AreFit names new
unfolding AreFit
fit_after_replacing names old new n value is fit = (fit.0, replace_keeps (IsFit names) (IsPlainList names) (λ _. Unit {0}) old new n value is (any_box value) fit.1)

pub fit_after_code : (names : List Spelling) (old new : Nest) (key : CodeKey) (value : ℤ) (is_global : Bool) → code_set old key value is_global ≡ Ok new → AreFit names old → AreFit names new
unfolding AreFit
fit_after_code names old new key value is_global is fit = (fit.0, code_keeps (IsFit names) (IsPlainList names) (λ _. Unit {0}) old new key value is_global is fit.1)

pub fit_after_font : (names : List Spelling) (nest : Nest) (slot : FontSlot) (value : FontNo) (is_global : Bool) → AreFit names nest → AreFit names (font_set nest slot value is_global)
unfolding AreFit
fit_after_font names nest slot value is_global fit = (fit.0, font_keeps (IsFit names) (IsPlainList names) (λ _. Unit {0}) nest slot value is_global fit.1)

-- What a token register holds can be put in front.
pub toks_fit : (names : List Spelling) (nest : Nest) (key : ToksKey) (value : List Token) → AreFit names nest → toks_at nest key ≡ Ok value → IsPlainList names value
unfolding AreFit
toks_fit names nest key value fit is = toks_has (IsFit names) (IsPlainList names) (λ _. Unit {0}) nest key value is fit.1 (tt, tt)
