-- What is true of a parameter text, token by token.
use Rattle.std.proofs.Common.{◌≡◌, ◌+◌, Bool, true, false, List, [], ◌∷◌, ◌++◌, refl, arith, nat_lt}
use Rattle.std.specs.Prelude.{◌&&◌}
use Rattle.std.proofs.lemmas.Bool.{ltb-true}
use Rattle.tok_lists.specs.declared.spelling.Spelling.{Spelling}
use Rattle.tok_lists.specs.declared.token.Token.{Token}
use Rattle.tok_lists.specs.declared.token.Token.TheVariants.{Param}
use Rattle.mouth.specs.Keeping.{IsToken}
use Rattle.raw_texts.specs.declared.token.Brace.TheVariants.{Neither}
use Rattle.raw_texts.specs.Kinds.{brace_of}
use Rattle.macros.specs.declared.heading.Heading.{Heading}
use Rattle.macros.specs.Headings.{is_digit, is_next, IsHeading}
use Rattle.macros.proofs.Numbering.{held_last, param_last, counted_last, numbered_last, counted_param, numbered_param, braces_last}

pub heading_kept : (names : List Spelling) (h : Heading) (t : Token) → IsHeading names h → IsToken names t → brace_of t ≡ Neither
    → IsHeading names (record { tokens = h.tokens ++ t ∷ []; count = h.count; hash = h.hash; brace = h.brace })
heading_kept names h t is token plain = record {
  held = held_last names h.tokens t is.held token.0;
  in_order = numbered_last h.tokens t token.1 is.in_order;
  counted = counted_last h.tokens t h.count token.1 is.counted;
  few = is.few;
  braces = braces_last h.tokens t plain is.braces;
  last = is.last;
}

first_of_both : (a b : Bool) → (a && b) ≡ true → a ≡ true
first_of_both true b h = refl
first_of_both false b h = absurd cc

pub heading_numbered : (names : List Spelling) (h : Heading) (t : Token) → IsHeading names h → is_next h.count t ≡ true
    → IsHeading names (record { tokens = h.tokens ++ Param (h.count + 1) ∷ []; count = h.count + 1; hash = false; brace = h.brace })
heading_numbered names h t is next =
    let fewer = ltb-true h.count 9 (first_of_both (nat_lt h.count 9) (is_digit (h.count + 1) t) next) in
    record {
      held = param_last names h.tokens (h.count + 1) is.held;
      in_order = numbered_param h.tokens h.count is.counted is.in_order;
      counted = counted_param h.tokens h.count is.counted;
      few = omega (arith, fewer);
      braces = braces_last h.tokens (Param (h.count + 1)) refl is.braces;
      last = is.last;
    }
