-- Why a text that is read without expansion is refused, and where.
use Rattle.ts_base.specs.Agreement.{Cause, Determined}
use Rattle.mouth.specs.declared.fault.MouthFault.{MouthFault}
use Rattle.mouth.specs.Reading.{Reading, Stop, at_place, place_of, mouth_cause}
use Rattle.raw_texts.specs.declared.fault.MacroFault.{MacroFault}
use Rattle.raw_texts.specs.declared.fault.MacroFault.TheVariants as faults

-- what is determined: all but what isn't so of the mouth
abbrev pub macro_cause : MacroFault → Cause
macro_cause (faults.Mouth fault) = mouth_cause fault
macro_cause faults.UseMismatch = Determined
macro_cause faults.ArgParagraph = Determined
macro_cause faults.BadParameter = Determined
macro_cause faults.NoBrace = Determined
macro_cause faults.NoName = Determined
macro_cause faults.ExtraCond = Determined

-- a fault of the mouth, at its place
abbrev pub of_mouth : Stop MouthFault → Stop MacroFault
of_mouth stop = at_place stop.place (faults.Mouth stop.fault)

-- a fault at the place up to which tokens are read
abbrev pub stopped : MacroFault → Reading → Stop MacroFault
stopped fault r = at_place (place_of r) fault
