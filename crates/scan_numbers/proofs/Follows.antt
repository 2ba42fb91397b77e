-- Steps that pass on what another step gave.
use Rattle.std.proofs.Common.{◌≡◌, ℤ, List, ◌∷◌, Result, Ok, Err, refl, ◌∙◌}
use Rattle.scan_numbers.specs.declared.fault.ScanFault.{ScanFault}
use Rattle.scan_numbers.specs.declared.fault.ScanFault.TheVariants.{Kind, NoMemory}
use Rattle.scan_numbers.specs.declared.fault.ScanKind.{ScanKind}
use Rattle.scan_numbers.specs.declared.step.Step.{Step}
use Rattle.scan_numbers.specs.declared.step.Step.TheVariants.{Further, Done}
use Rattle.scan_numbers.specs.declared.quantity.Register.{Register}
use Rattle.scan_numbers.specs.declared.quantity.Quantity.{Quantity}
use Rattle.scan_numbers.specs.Contexts.{Context}
use Rattle.scan_numbers.specs.Quantities.{reading}
use Rattle.scan_numbers.specs.Tokens.{FedToken}
use Rattle.scan_numbers.specs.Answers.{Answer, Got, Bad}
use Rattle.scan_numbers.specs.Integers.{register}
use Rattle.scan_numbers.specs.Machines.{Follows}

-- a fault of a part is the fault of the whole
pub bad_passes : {S S' V V' W W' : Type 0} (view : V → W) (view' : V' → W') (left : S → List FedToken → Answer W) (left' : S' → List FedToken → Answer W') (x : FedToken)
    (before : List FedToken → Answer W) (before' : List FedToken → Answer W') (fault : ScanFault)
    → ((kind : ScanKind) (rest : List FedToken) → before (x ∷ rest) ≡ Bad kind → before' (x ∷ rest) ≡ Bad kind)
    → Follows view left x before (Err fault) → Follows view' left' x before' (Err fault)
bad_passes view view' left left' x before before' (Kind kind) same follows = λ rest. same kind rest (follows rest)
bad_passes view view' left left' x before before' NoMemory same follows = tt

-- what follows one part follows another that says the same of the token
pub same_follows : {S V W : Type 0} (view : V → W) (left : S → List FedToken → Answer W) (x : FedToken) (before before' : List FedToken → Answer W) (result : Result (Step S V) ScanFault)
    → ((rest : List FedToken) → before' (x ∷ rest) ≡ before (x ∷ rest)) → Follows view left x before result → Follows view left x before' result
same_follows view left x before before' (Ok (Further state)) same follows = λ rest. same rest ∙ follows rest
same_follows view left x before before' (Ok (Done value taken)) same follows = λ rest. same rest ∙ follows rest
same_follows view left x before before' (Err (Kind kind)) same follows = λ rest. same rest ∙ follows rest
same_follows view left x before before' (Err NoMemory) same follows = tt

-- ---- what a register gives the part that is after it

pub read_ok : (r : Register) (n : ℤ) (q : Quantity) (context : Context) (rest : List FedToken) → Ok q ≡ reading r n context.env → register r n context rest ≡ Got q context rest
unfolding register
read_ok r n q context rest is = rw (← is) refl

pub read_err : (r : Register) (n : ℤ) (kind : ScanKind) (context : Context) (rest : List FedToken) → Err kind ≡ reading r n context.env → register r n context rest ≡ Bad kind
unfolding register
read_err r n kind context rest is = rw (← is) refl
