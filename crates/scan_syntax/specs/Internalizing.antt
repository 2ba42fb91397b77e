-- What is still to be read of an internal quantity.
use Rattle.std.specs.Prelude.{Bool, true, false, List}
use Rattle.scan_syntax.specs.declared.internal.Internal.{Internal}
use Rattle.scan_syntax.specs.declared.internal.Internal.TheVariants as internals
use Rattle.scan_numbers.specs.declared.start.Start.{Start}
use Rattle.scan_numbers.specs.declared.start.Start.TheVariants as starts
use Rattle.scan_syntax.specs.declared.found.Found.{Found}
use Rattle.scan_syntax.specs.declared.want.Value.{Value}
use Rattle.scan_numbers.specs.Tokens.{FedToken}
use Rattle.scan_numbers.specs.Answers.{Answer, ◌>>=◌}
use Rattle.scan_numbers.specs.Integers.{register}
use Rattle.scan_numbers.specs.Machines.{integer_left}
use Rattle.scan_syntax.specs.Internals.{internal, whole_value, toks_register}

abbrev pub found_value : Found → Value
found_value found = found.value

unfoldable pub internal_left : Internal → List FedToken → Answer Value
internal_left internals.Begin list = internal list
internal_left (internals.Register r i) list = integer_left i list >>= register r >>= whole_value
internal_left (internals.Toks i) list = integer_left i list >>= toks_register

-- what begins no internal quantity
abbrev pub begins_none : Start → Bool
begins_none (starts.Internal q) = false
begins_none (starts.Register r) = false
begins_none (starts.Refused kind) = false
begins_none _ = true
