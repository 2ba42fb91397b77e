-- One expansion is its step over the calls themselves: those that it makes stand below it.
use Rattle.std.proofs.Common.{◌≡◌, ℕ, ◌+◌, ◌*◌, ◌<◌, ◌≤◌, refl, arith, ap, ◌∙◌, [], ◌∷◌, Ok}
use Rattle.std.specs.Prelude.{if◌then◌else◌}
use Rattle.ts_base.specs.Agreement.{◌>>=◌, with_fault}
use Rattle.tok_lists.specs.declared.token.Token.{Token}
use Rattle.mouth.specs.Reading.{Reading}
use Rattle.mouth.specs.Changes.{begun, ended, opened}
use Rattle.mouth.specs.Tokens.{plain}
use Rattle.mouth.specs.Sizes.{size}
use Rattle.expander.specs.declared.action.Front.{Front}
use Rattle.expander.specs.declared.action.Front.TheVariants as fronts
use Rattle.expander.specs.declared.action.Action.{Action}
use Rattle.expander.specs.declared.action.Action.TheVariants as actions
use Rattle.expander.specs.Faults.{of_mouth}
use Rattle.expander.specs.Worlds.{World, world, Outcome, token_from, plain_from, put, in_world}
use Rattle.expander.specs.Actions.{expands, front_of}
use Rattle.expander.specs.declared.action.Printing.{Printing}
use Rattle.expander.specs.declared.action.NumberTest.{NumberTest}
use Rattle.expander.specs.declared.action.Aspect.{Aspect}
use Rattle.expander.specs.declared.action.Further.{Further}
use Rattle.expander.specs.declared.action.Further.TheVariants as furthers
use Rattle.scan_syntax.specs.declared.want.Want.{Want}
use Rattle.scan_syntax.specs.declared.want.Want.TheVariants as wants
use Rattle.expander.specs.Numbers.{want_of}
use Rattle.expander.specs.Steps.{Calls, Next, PastSpaces, Chars, Expand, Scan, second, expand_next, expand_after, print_scanned, test_scanned, relation_read, compare_scanned, compare_tokens, make_name, input, goes_further, around, acts, expand_as, expand_step}
use Rattle.expander.specs.Expansion.{rank, below, run}
use Rattle.expander.proofs.Equations.{run_is, below_run}
use Rattle.expander.proofs.Falling.{bind_same, token_less, plain_less, begun_size}
use Rattle.expander.proofs.Sized.{next_size, scan_size, relation_size}
use Rattle.expander.proofs.Texts.{opened_size}

second_same : (k : ℕ) (w : World) (t : Token × Reading) → 8 * size t.1 < k → second (below k run) w t ≡ second run w t
second_same k w t less =
    ap (λ (x : Outcome World). if expands w.nest t.0 then x else in_world w (put (plain t.0 ∷ []) t.1)) (below_run k (Expand t.0) (world t.1 w.nest) (omega (arith, less)))

next_same : (k : ℕ) (w : World) → 8 * size w.at < k → expand_next (below k run) w ≡ expand_next run w
next_same k w less = bind_same (token_from w.nest w.at) _ _ (λ t first.
    let fewer = token_less w.nest w.at t first in
    second_same k w t (omega (arith, less, fewer)))

after_same : (k : ℕ) (w : World) → 8 * size w.at < k → expand_after (below k run) w ≡ expand_after run w
after_same k w less = bind_same (plain_from w.nest w.at) _ _ (λ a first.
    let fewer = plain_less w.nest w.at a first in
    ap (λ (x : Outcome World). x >>= λ v. in_world v (put (a.0 ∷ []) v.at)) (next_same k (world a.1 w.nest) (omega (arith, less, fewer))))

-- An expansion that makes calls stands below the one that makes it, by its unit.
around_same : (does : Calls → World → Outcome World) (k : ℕ) (w : World) → ((v : World) → 8 * size v.at + 700000000000 ≤ k → does (below k run) v ≡ does run v) → 8 * size w.at < k + 1
    → around (does (below k run)) w ≡ around (does run) w
around_same does k w same less = bind_same (with_fault of_mouth (begun w.at)) _ _ (λ at from.
    let fewer = begun_size w.at at from in
    ap (λ (x : Outcome World). x >>= λ v. Ok (world (ended v.at) v.nest)) (same (world at w.nest) (omega (arith, less, fewer))))

print_same : (k : ℕ) (printing : Printing) (w : World) → 8 * size w.at + 700000000000 ≤ k → print_scanned (below k run) printing w ≡ print_scanned run printing w
print_same k printing w less = rw (below_run k (Scan (want_of printing) []) w (omega (arith, less))) refl

test_same : (k : ℕ) (test : NumberTest) (w : World) → 8 * size w.at + 700000000000 ≤ k → test_scanned (below k run) test w ≡ test_scanned run test w
test_same k test w less = rw (below_run k (Scan wants.Integer []) (world (opened w.at) w.nest) (omega (arith, less, opened_size w.at))) refl

relation_same : (k : ℕ) (w : World) → 8 * size w.at + 1 < k → relation_read (below k run) w ≡ relation_read run w
relation_same k w less = rw (below_run k PastSpaces w (omega (arith, less))) refl

compare_same : (k : ℕ) (want : Want) (w : World) → 8 * size w.at + 700000000000 ≤ k → compare_scanned (below k run) want w ≡ compare_scanned run want w
compare_same k want w less =
    rw (below_run k (Scan want []) (world (opened w.at) w.nest) (omega (arith, less, opened_size w.at)))
    (bind_same (run (Scan want []) (world (opened w.at) w.nest)) _ _ (λ a first.
    let few = scan_size want (world (opened w.at) w.nest) a first in
    rw (relation_same k a.1 (omega (arith, less, few, opened_size w.at)))
    (bind_same (relation_read run a.1) _ _ (λ r second.
    let fewer = relation_size a.1 r second in
    rw (below_run k (Scan want []) r.1 (omega (arith, less, few, fewer, opened_size w.at))) refl))))

tokens_same : (k : ℕ) (aspect : Aspect) (w : World) → 8 * size w.at + 700000000000 ≤ k → compare_tokens (below k run) aspect w ≡ compare_tokens run aspect w
tokens_same k aspect w less =
    rw (below_run k Next (world (opened w.at) w.nest) (omega (arith, less, opened_size w.at)))
    (bind_same (run Next (world (opened w.at) w.nest)) _ _ (λ a first.
    let fewer = next_size (world (opened w.at) w.nest) a first in
    rw (below_run k Next a.1 (omega (arith, less, fewer, opened_size w.at))) refl))

make_same : (k : ℕ) (w : World) → 8 * size w.at + 700000000000 ≤ k → make_name (below k run) w ≡ make_name run w
make_same k w less = rw (below_run k (Chars []) w (omega (arith, less))) refl

input_same : (k : ℕ) (w : World) → 8 * size w.at + 700000000000 ≤ k → input (below k run) w ≡ input run w
input_same k w less = rw (below_run k (Scan wants.FileName []) w (omega (arith, less))) refl

further_same : (k : ℕ) (further : Further) (w : World) → 8 * size w.at + 700000000000 ≤ k → goes_further (below k run) further w ≡ goes_further run further w
further_same k furthers.ExpandAfter w less = after_same k w (omega (arith, less))
further_same k (furthers.Prints printing) w less = print_same k printing w less
further_same k (furthers.Tests test) w less = test_same k test w less
further_same k furthers.IfNum w less = compare_same k wants.Integer w less
further_same k furthers.IfDim w less = compare_same k wants.Dimen w less
further_same k (furthers.Compares aspect) w less = tokens_same k aspect w less
further_same k furthers.CsName w less = make_same k w less
further_same k furthers.Input w less = input_same k w less

acts_same : (k : ℕ) (token : Token) (action : Action) (w : World) → 8 * size w.at < k + 1 → acts (below k run) token action w ≡ acts run token action w
acts_same k token (actions.Further further) w less = around_same (λ f. goes_further f further) k w (λ v few. further_same k further v few) less
acts_same k token actions.NoExpand w less = refl
acts_same k token actions.String w less = refl
acts_same k token actions.EndInput w less = refl
acts_same k token (actions.Ends limb) w less = refl
acts_same k token (actions.Asks question) w less = refl
acts_same k token actions.IfX w less = refl
acts_same k token actions.Unexpandable w less = refl

as_same : (k : ℕ) (token : Token) (front : Front) (w : World) → 8 * size w.at < k + 1 → expand_as (below k run) token front w ≡ expand_as run token front w
as_same k token fronts.Undefined w less = refl
as_same k token (fronts.Call definition) w less = refl
as_same k token (fronts.Acts action) w less = acts_same k token action w less

pub expand_is : (token : Token) (w : World) → run (Expand token) w ≡ expand_step run token w
unfolding expand_step
expand_is token w = run_is (Expand token) w ∙ as_same (rank (Expand token) w) token (front_of w.nest token) w (omega arith)
