-- Bodies that are expanded, part by part.
use Rattle.std.proofs.Common.{◌≡◌, ◌<◌, ◌≤◌, ◌+◌, ℕ, zero, suc, Bool, true, false, List, Ok, refl, ◌∙◌, arith}
use Rattle.std.specs.Prelude.{IfOk, if◌then◌else◌, not, ◌&&◌, []}
use Rattle.ts_base.specs.Agreement.{Cause, Determined, Counted, Free, ◌>>=◌, with_fault, AgreesFault}
use Rattle.tok_lists.specs.declared.spelling.Spelling.{Spelling}
use Rattle.tok_lists.specs.declared.token.Token.{Token}
use Rattle.tok_lists.specs.declared.token.Token.TheVariants as tokens
use Rattle.mouth.specs.Keeping.{IsToken}
use Rattle.mouth.specs.Reading.{Reading, Stop}
use Rattle.env_groups.specs.declared.meaning.MacroDef.{MacroDef}
use Rattle.mouth.specs.Changes.{begun, entered, left}
use Rattle.mouth.specs.Sizes.{size}
use Rattle.mouth.specs.Tokens.{plain}
use Rattle.raw_texts.specs.declared.machine.Progress.{Progress}
use Rattle.raw_texts.specs.declared.machine.Progress.TheVariants.{On, Done}
use Rattle.macros.specs.declared.body.Body.{Body}
use Rattle.macros.specs.Headings.{heading}
use Rattle.macros.specs.Bodies.{empty, step}
use Rattle.macros.specs.Definitions.{defined}
use Rattle.expander.specs.declared.fault.StepFault.{StepFault}
use Rattle.expander.specs.declared.fault.StepFault.TheVariants.{Text}
use Rattle.scan_syntax.specs.declared.want.Want.TheVariants.{Internal}
use Rattle.expander.specs.Faults.{of_text, of_mouth, stopped}
use Rattle.expander.specs.Worlds.{World, world, Outcome, token_from}
use Rattle.expander.specs.Actions.{expands, front_of}
use Rattle.expander.specs.Steps.{Expand, Scan}
use Rattle.expander.specs.Expansion.{run}
use Rattle.expander.specs.Definitions.{Part, part, token_fed, is_the, the_stored, part_expanded, part_with, next_part, goes_as, goes_on, expanded_within, expanded, definition_of}
use Rattle.expander.proofs.Falling.{bind_same}
use Rattle.expander.proofs.Outcomes.{if_weaker, if_bind, if_then, if_fault, if_either}
use Rattle.expander.proofs.Texts.{begun_falls, ended_size, entered_size, left_size, heading_falls, defined_falls}
use Rattle.expander.proofs.Sized.{scan_leaves, token_falls, expand_leaves}
use Rattle.std.proofs.lemmas.Result.{IfOk-at_ok}

-- ---- each part leaves less

stored_falls : (body : Body) (w : World) → IfOk (the_stored body w) (λ p. size p.rest.at < size w.at)
stored_falls body w = if_bind (with_fault of_mouth (begun w.at)) _ (λ x. size x + 100000000000 ≡ size w.at) _ (if_fault of_mouth (begun w.at) _ (begun_falls w.at)) (λ x less.
    if_bind (run (Scan Internal []) (world x w.nest)) _ (λ y. size y.1.at ≤ size x) _ (scan_leaves Internal (world x w.nest)) (λ y few. omega (arith, less, few, ended_size y.1.at)))

expanded_falls : (body : Body) (w : World) (t : Token × Reading) → size t.1 < size w.at → IfOk (part_expanded body w t) (λ p. size p.rest.at < size w.at)
expanded_falls body w t less = either (expands w.nest t.0)
  where
    either : (b : Bool) → IfOk (if b then (run (Expand t.0) (world t.1 w.nest) >>= λ v. Ok (part On body v)) else token_fed body (plain t.0) (world t.1 w.nest)) (λ p. size p.rest.at < size w.at)
    either true = if_bind (run (Expand t.0) (world t.1 w.nest)) (λ v. Ok (part On body v)) (λ v. size v.at ≤ size t.1) _ (expand_leaves t.0 (world t.1 w.nest)) (λ v few. omega (arith, less, few))
    either false = if_then (with_fault (λ fault. stopped (Text fault) t.1) (step w.nest body (plain t.0))) (λ p. Ok (part p.0 p.1 (world t.1 w.nest))) _ (λ p. less)

part_falls : (body : Body) (w : World) (t : Token × Reading) → size t.1 < size w.at → IfOk (part_with body w t) (λ p. size p.rest.at < size w.at)
part_falls body w t less = if_either (is_the (front_of w.nest t.0) && not body.hash) _ _ _
    (if_weaker (the_stored body (world t.1 w.nest)) (λ p. size p.rest.at < size t.1) _ (stored_falls body (world t.1 w.nest)) (λ p fewer. omega (arith, less, fewer)))
    (expanded_falls body w t less)

next_falls : (body : Body) (w : World) → IfOk (next_part body w) (λ p. size p.rest.at < size w.at)
next_falls body w = if_bind (token_from w.nest w.at) (part_with body w) (λ t. size t.1 < size w.at) _ (token_falls w.nest w.at) (λ t less. part_falls body w t less)

next_less : (body : Body) (w : World) (p : Part) → next_part body w ≡ Ok p → size p.rest.at < size w.at
next_less body w p is = IfOk-at_ok (λ (q : Part). size q.rest.at < size w.at) is (next_falls body w)

as_falls : (more : Body → World → Outcome (Body × World)) (progress : Progress) (body : Body) (w : World) → IfOk (more body w) (λ b. size b.1.at ≤ size w.at)
    → IfOk (goes_as more progress body w) (λ b. size b.1.at ≤ size w.at)
as_falls more Done body w further = omega arith
as_falls more On body w further = further

within_falls : (n : ℕ) (body : Body) (w : World) → IfOk (expanded_within n body w) (λ b. size b.1.at < size w.at)
unfolding expanded_within
within_falls zero body w = tt
within_falls (suc n) body w = if_bind (next_part body w) (goes_on (expanded_within n)) (λ p. size p.rest.at < size w.at) _ (next_falls body w) (λ p less.
    if_weaker (goes_as (expanded_within n) p.progress p.body p.rest) (λ b. size b.1.at ≤ size p.rest.at) _
    (as_falls (expanded_within n) p.progress p.body p.rest (if_weaker (expanded_within n p.body p.rest) (λ b. size b.1.at < size p.rest.at) _ (within_falls n p.body p.rest) (λ b fewer. omega (arith, fewer))))
    (λ b few. omega (arith, less, few)))

body_falls : (body : Body) (w : World) → IfOk (expanded body w) (λ b. size b.1.at < size w.at)
unfolding expanded
body_falls body w = within_falls (suc (size w.at)) body w

-- A definition leaves less.
pub definition_leaves : (is_expanded : Bool) (w : World) → IfOk (definition_of is_expanded w) (λ d. size d.1.at < size w.at)
definition_leaves true w = if_bind (with_fault of_text (heading w.nest (entered w.at))) _ (λ h. size h.1 < size (entered w.at)) _
    (if_fault of_text (heading w.nest (entered w.at)) _ (heading_falls w.nest (entered w.at))) (λ h less.
    if_bind (expanded (empty h.0) (world h.1 w.nest)) _ (λ b. size b.1.at < size h.1) _ (body_falls (empty h.0) (world h.1 w.nest)) (λ b fewer.
    omega (arith, less, fewer, entered_size w.at, left_size b.1.at)))
definition_leaves false w = if_bind (with_fault of_text (defined w.nest w.at)) _ (λ d. size d.1 < size w.at) _ (if_fault of_text (defined w.nest w.at) _ (defined_falls w.nest w.at)) (λ d less. less)

-- ---- enough levels are enough

as_same : (f g : Body → World → Outcome (Body × World)) (progress : Progress) (body : Body) (w : World) → f body w ≡ g body w → goes_as f progress body w ≡ goes_as g progress body w
as_same f g Done body w same = refl
as_same f g On body w same = same

agree : (n m : ℕ) (body : Body) (w : World) → size w.at < n → size w.at < m → expanded_within n body w ≡ expanded_within m body w
unfolding expanded_within
agree zero m body w in_n in_m = absurd (omega (arith, in_n))
agree (suc n) zero body w in_n in_m = absurd (omega (arith, in_m))
agree (suc n) (suc m) body w in_n in_m = bind_same (next_part body w) (goes_on (expanded_within n)) (goes_on (expanded_within m)) (λ p is.
    let less = next_less body w p is in
    as_same (expanded_within n) (expanded_within m) p.progress p.body p.rest (agree n m p.body p.rest (omega (arith, less, in_n)) (omega (arith, less, in_m))))

-- A body reads a part, and where there is more it goes on in the same way.
pub expanded_is : (body : Body) (w : World) → expanded body w ≡ (next_part body w >>= goes_on expanded)
unfolding expanded expanded_within
expanded_is body w = bind_same (next_part body w) (goes_on (expanded_within (size w.at))) (goes_on expanded) (λ p is.
    let less = next_less body w p is in
    as_same (expanded_within (size w.at)) expanded p.progress p.body p.rest (agree (size w.at) (suc (size p.rest.at)) p.body p.rest less (omega arith)))

-- ---- turns

pub part_on : (body body1 : Body) (w v : World) → next_part body w ≡ Ok (part On body1 v) → expanded body w ≡ expanded body1 v
part_on body body1 w v is = expanded_is body w ∙ rw is refl

pub part_done : (body body1 : Body) (w v : World) → next_part body w ≡ Ok (part Done body1 v) → expanded body w ≡ Ok (body1, v)
part_done body body1 w v is = expanded_is body w ∙ rw is refl

pub part_refused : (cause : Cause) (body : Body) (w : World) (e : Stop StepFault) → AgreesFault cause e (next_part body w) → AgreesFault cause e (expanded body w)
part_refused Determined body w e refuses = expanded_is body w ∙ rw refuses refl
part_refused Counted body w e refuses = tt
part_refused Free body w e refuses = tt

-- ---- tokens

-- The plain name of a token is held where the token is.
pub plain_token : (names : List Spelling) (token : Token) → IsToken names token → IsToken names (plain token)
plain_token names (tokens.Char code cat) is = is
plain_token names (tokens.Ja cell) is = is
plain_token names (tokens.Name name) is = is
plain_token names (tokens.Kept name) is = is
plain_token names (tokens.Param n) is = is
