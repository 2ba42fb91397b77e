-- What is still to be read of the name of a file.
use Rattle.std.specs.Prelude.{ℕ, ◌++◌, List, [], ◌∷◌}
use Rattle.scan_syntax.specs.declared.naming.Naming.{Naming}
use Rattle.scan_numbers.specs.Contexts.{Context}
use Rattle.scan_numbers.specs.Tokens.{FedToken}
use Rattle.scan_numbers.specs.Answers.{Answer, ◌>>=◌}
use Rattle.scan_syntax.specs.FileNames.{name_bytes, file_named, file_name}

abbrev pub same_name : List ℕ → List ℕ
same_name name = name

abbrev pub name_after : List ℕ → List ℕ → Context → List FedToken → Answer (List ℕ)
name_after before cs context rest = file_named (before ++ cs) context rest

-- what is still to be read of a name that began with these characters
unfoldable pub begun_left : List ℕ → List FedToken → Answer (List ℕ)
begun_left before list = name_bytes list >>= name_after before

abbrev pub named_left : List ℕ → List FedToken → Answer (List ℕ)
named_left [] list = file_name list
named_left (b ∷ bs) list = begun_left (b ∷ bs) list

unfoldable pub naming_left : Naming → List FedToken → Answer (List ℕ)
naming_left n list = named_left n.bytes.items list
