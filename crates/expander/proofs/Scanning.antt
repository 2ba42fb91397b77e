-- A scan is its step, over the calls themselves.
use Rattle.std.proofs.Common.{◌≡◌, ◌<◌, ◌+◌, ◌*◌, ℕ, List, [], ◌∷◌, ◌++◌, Ok, refl, arith, ◌∙◌}
use Rattle.std.proofs.lemmas.Result.{IfOk-at_ok}
use Rattle.tok_lists.specs.declared.token.Token.{Token}
use Rattle.mouth.specs.Sizes.{size}
use Rattle.scan_numbers.specs.Tokens.{FedToken}
use Rattle.scan_numbers.specs.Answers.{Form, Expanded, Raw, Answer, Got, Needs, Bad}
use Rattle.scan_syntax.specs.declared.want.Want.{Want}
use Rattle.scan_syntax.specs.declared.want.Value.{Value}
use Rattle.scan_syntax.specs.Scans.{grammar}
use Rattle.expander.specs.Worlds.{World}
use Rattle.expander.specs.Scanning.{fed_in}
use Rattle.expander.specs.Steps.{Next, Scan, wanted, scan_on, scan_step}
use Rattle.expander.specs.Expansion.{rank, below, run}
use Rattle.expander.proofs.Equations.{run_is, below_run}
use Rattle.expander.proofs.Falling.{bind_same}
use Rattle.expander.proofs.Sized.{run_falls, wanted_falls}

wanted_same : (k : ℕ) (form : Form) (w : World) → 8 * size w.at < k → wanted (below k run) form w ≡ wanted run form w
wanted_same k Expanded w less = below_run k Next w (omega (arith, less))
wanted_same k Raw w less = refl

wanted_size : (form : Form) (w : World) (t : Token × World) → wanted run form w ≡ Ok t → size t.1.at < size w.at
wanted_size form w t is = IfOk-at_ok (λ (u : Token × World). size u.1.at < size w.at) is (wanted_falls run run_falls form w)

scan_on_same : (k : ℕ) (want : Want) (before : List FedToken) (answer : Answer Value) (w : World) → 8 * size w.at < k → scan_on (below k run) want before answer w ≡ scan_on run want before answer w
scan_on_same k want before (Got value context rest) w less = refl
scan_on_same k want before (Bad kind) w less = refl
scan_on_same k want before (Needs form) w less =
    rw (wanted_same k form w less) (bind_same (wanted run form w) _ _ (λ t from.
    let fewer = wanted_size form w t from in
    below_run k (Scan want (before ++ fed_in t.1 t.0 ∷ [])) t.1 (omega (arith, less, fewer))))

pub scan_is : (want : Want) (before : List FedToken) (w : World) → run (Scan want before) w ≡ scan_step run want before w
unfolding scan_step
scan_is want before w = run_is (Scan want before) w ∙ scan_on_same (rank (Scan want before) w) want before (grammar want before) w (omega arith)
