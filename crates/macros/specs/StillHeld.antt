-- What is true of definitions stays so while names come.
use Rattle.std.specs.Prelude.{List, Option, Some, None, IfSome}
use Rattle.tok_lists.specs.declared.spelling.Spelling.{Spelling}
use Rattle.tok_lists.specs.declared.token.Token.{Token}
use Rattle.tok_lists.specs.Names.{Grew}
use Rattle.tok_lists.proofs.Growing.{held_still, all_held_still}
use Rattle.macros.specs.declared.body.Body.{Body}
use Rattle.macros.specs.Bodies.{IsBody}
use Rattle.macros.specs.declared.heading.Heading.{Heading}
use Rattle.macros.specs.Headings.{IsBegin, IsHeading}

begin_still : (old new : List Spelling) (brace : Option Token) → Grew old new → IfSome brace (IsBegin old) → IfSome brace (IsBegin new)
begin_still old new None grew is = tt
begin_still old new (Some token) grew is = ((held_still old new token grew is.0.0, is.0.1), is.1)

pub heading_still : (old new : List Spelling) (h : Heading) → Grew old new → IsHeading old h → IsHeading new h
heading_still old new h grew is = record {
  held = all_held_still old new h.tokens grew is.held;
  in_order = is.in_order;
  counted = is.counted;
  few = is.few;
  braces = is.braces;
  last = begin_still old new h.brace grew is.last;
}

pub body_still : (old new : List Spelling) (b : Body) → Grew old new → IsBody old b → IsBody new b
body_still old new b grew is = record { text = heading_still old new b.heading grew is.text; held = all_held_still old new b.tokens grew is.held; within = is.within }
