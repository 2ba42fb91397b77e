-- What a grammar says of a list of tokens.
use Rattle.std.specs.Prelude.{List}
use Rattle.scan_numbers.specs.Contexts.{Context}
use Rattle.scan_numbers.specs.declared.fault.ScanKind.{ScanKind}
use Rattle.scan_numbers.specs.Tokens.{FedToken}

-- the form in which a further token is needed
pub data Form : Type 0 where
  Expanded : Form
  Raw : Form

-- a value, with the environment of the token that completed it and the tokens left over; that a further token is needed; or a fault
pub data Answer (A : Type 0) : Type 0 where
  Got : A → Context → List FedToken → Answer A
  Needs : Form → Answer A
  Bad : ScanKind → Answer A

-- first one part, and then another, which may depend on what the first one gave
infixl 10 ◌>>=◌
abbrev pub ◌>>=◌ : {A B : Type 0} → Answer A → (A → Context → List FedToken → Answer B) → Answer B
(Got a context rest) >>= part = part a context rest
(Needs form) >>= part = Needs form
(Bad kind) >>= part = Bad kind
