-- Why an expansion is refused, and where.
use Rattle.ts_base.specs.Agreement.{Cause, Determined}
use Rattle.mouth.specs.declared.fault.MouthFault.{MouthFault}
use Rattle.mouth.specs.Reading.{Reading, Stop, at_place, place_of}
use Rattle.raw_texts.specs.declared.fault.MacroFault.{MacroFault}
use Rattle.raw_texts.specs.declared.fault.MacroFault.TheVariants.{Mouth, ExtraCond}
use Rattle.raw_texts.specs.Faults.{macro_cause}
use Rattle.expander.specs.declared.fault.StepFault.{StepFault}
use Rattle.expander.specs.declared.fault.StepFault.TheVariants as faults

-- what is determined: all but what isn't so of the texts that are read
abbrev pub step_cause : StepFault → Cause
step_cause (faults.Text fault) = macro_cause fault
step_cause faults.Undefined = Determined
step_cause faults.CsnameEnd = Determined
step_cause (faults.Scan kind) = Determined

-- a fault of a text, at its place
abbrev pub of_text : Stop MacroFault → Stop StepFault
of_text stop = at_place stop.place (faults.Text stop.fault)

-- a fault of the mouth, at its place
abbrev pub of_mouth : Stop MouthFault → Stop StepFault
of_mouth stop = at_place stop.place (faults.Text (Mouth stop.fault))

-- a fault at the place up to which tokens are read
abbrev pub stopped : StepFault → Reading → Stop StepFault
stopped fault r = at_place (place_of r) fault

abbrev pub extra_conditional : Reading → Stop StepFault
extra_conditional r = stopped (faults.Text ExtraCond) r
