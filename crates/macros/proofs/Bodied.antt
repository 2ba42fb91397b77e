-- What is true of a body, token by token.
use Rattle.std.proofs.Common.{◌≡◌, ◌-◌, ℕ, zero, suc, false, List, [], ◌∷◌, ◌++◌, length, take, Option, Some, None, sym, ap, ◌∙◌, subst, arith, length-append}
use Rattle.std.specs.Prelude.{IfSome}
use Rattle.std.proofs.Math.Seq.{take-append_seam}
use Rattle.tok_lists.specs.declared.spelling.Spelling.{Spelling}
use Rattle.tok_lists.specs.declared.token.Token.{Token}
use Rattle.tok_lists.specs.declared.token.Token.TheVariants.{Char, Ja, Name, Kept, Param}
use Rattle.tok_lists.specs.Names.{IsHeld, IsNoParam, HasNoParam, Grew}
use Rattle.tok_lists.proofs.Growing.{all_held_still}
use Rattle.tok_lists.proofs.Flat.{held_together}
use Rattle.env_groups.specs.declared.meaning.MacroDef.{MacroDef}
use Rattle.raw_texts.specs.Holding.{AreTokens}
use Rattle.tok_lists.specs.Pending.{IsParamWithin, AreParamsWithin}
use Rattle.macros.specs.declared.body.Body.{Body}
use Rattle.macros.specs.Bodies.{stored, IsBody}
use Rattle.macros.specs.Borders.{AreNoBraces}
use Rattle.macros.specs.Headings.{IsBegin}
use Rattle.macros.specs.Definitions.{with_last, macro_of, IsDefined}
use Rattle.macros.proofs.Numbering.{held_last, counted_last, numbered_last}

pub param_within : (count : ℕ) (t : Token) → IsNoParam t → IsParamWithin count t
param_within count (Char c k) h = tt
param_within count (Ja c) h = tt
param_within count (Name n) h = tt
param_within count (Kept n) h = tt
param_within count (Param n) h = absurd h

within_last : (count : ℕ) (l : List Token) (t : Token) → AreParamsWithin count l → IsParamWithin count t → AreParamsWithin count (l ++ t ∷ [])
within_last count [] t h is = (is, tt)
within_last count (u ∷ l) t h is = (h.0, within_last count l t h.1 is)

pub body_kept : (names : List Spelling) (b : Body) (t : Token) (level : ℕ) → IsBody names b → IsHeld names t → IsParamWithin b.heading.count t
    → IsBody names (record { heading = b.heading; tokens = b.tokens ++ t ∷ []; level = level; hash = false })
body_kept names b t level is held within = record {
  text = is.text;
  held = held_last names b.tokens t is.held held;
  within = within_last b.heading.count b.tokens t is.within within;
}

-- ---- the macro of a body

plain_take : (k : ℕ) (a : List Token) → AreNoBraces a → AreNoBraces (take k a)
plain_take zero a h = tt
plain_take (suc k) [] h = tt
plain_take (suc k) (t ∷ a) h = (h.0, plain_take k a h.1)

but_last : (l : List Token) (t : Token) → AreNoBraces l → AreNoBraces (take (length (l ++ t ∷ []) - 1) (l ++ t ∷ []))
but_last l t plain =
    let size : length (l ++ t ∷ []) - 1 ≡ length l = omega (arith, length-append l (t ∷ [])) in
    let same : take (length (l ++ t ∷ []) - 1) (l ++ t ∷ []) ≡ l = ap (λ n. take n (l ++ t ∷ [])) size ∙ take-append_seam l (t ∷ []) in
    subst AreNoBraces (sym same) plain

macro_by : (names : List Spelling) (b : Body) (brace : Option Token) → IsBody names b → IfSome brace (IsBegin names)
    → IsDefined names (record { long = false; params = with_last b.heading.tokens brace; body = with_last b.tokens brace })
macro_by names b None is last =
    let h = is.text in
    record {
      sound = record { numbered = h.in_order; few = omega (arith, h.counted, h.few); body = subst (λ n. AreParamsWithin n b.tokens) (sym h.counted) is.within };
      braces = plain_take (length b.heading.tokens - 1) b.heading.tokens h.braces;
      params = h.held;
      body = is.held;
    }
macro_by names b (Some t) is last =
    let h = is.text in
    let count = counted_last b.heading.tokens t b.heading.count last.0.1 h.counted in
    record {
      sound = record {
        numbered = numbered_last b.heading.tokens t last.0.1 h.in_order;
        few = omega (arith, count, h.few);
        body = subst (λ n. AreParamsWithin n (b.tokens ++ t ∷ [])) (sym count) (within_last b.heading.count b.tokens t is.within (param_within b.heading.count t last.0.1));
      };
      braces = but_last b.heading.tokens t h.braces;
      params = held_last names b.heading.tokens t h.held last.0.0;
      body = held_last names b.tokens t is.held last.0.0;
    }

pub macro_is : (names : List Spelling) (b : Body) → IsBody names b → IsDefined names (macro_of b)
macro_is names b is = macro_by names b b.heading.brace is is.text.last

pub defined_still : (old new : List Spelling) (m : MacroDef) → Grew old new → IsDefined old m → IsDefined new m
defined_still old new m grew is = record {
  sound = is.sound;
  braces = is.braces;
  params = all_held_still old new m.params grew is.params;
  body = all_held_still old new m.body grew is.body;
}

-- ---- tokens that are stored

all_within : (count : ℕ) (l : List Token) → HasNoParam l → AreParamsWithin count l
all_within count [] h = tt
all_within count (t ∷ l) h = (param_within count t h.0, all_within count l h.1)

within_together : (count : ℕ) (a b : List Token) → AreParamsWithin count a → AreParamsWithin count b → AreParamsWithin count (a ++ b)
within_together count [] b h g = g
within_together count (t ∷ a) b h g = (h.0, within_together count a b h.1 g)

pub body_stored : (names : List Spelling) (b : Body) (list : List Token) → AreTokens names list → IsBody names b → IsBody names (stored b list)
body_stored names b list are is = record {
  text = is.text;
  held = held_together names b.tokens list is.held are.held;
  within = within_together b.heading.count b.tokens list is.within (all_within b.heading.count list are.no_param);
}
