-- The texts that a job reports.
use Rattle.std.specs.Prelude.{ℕ, List, [], ◌∷◌, ◌++◌, codes}
use Rattle.std.specs.Fmt.{decimal}
use Rattle.ts_geometry.specs.declared.fault.BadKind.{BadKind}
use Rattle.ts_geometry.specs.declared.fault.BadKind.TheVariants as bad
use Rattle.ts_job.specs.declared.fault.FaultKind.{FaultKind}
use Rattle.ts_job.specs.declared.fault.FaultKind.TheVariants as kinds
use Rattle.ts_job.specs.declared.fault.Fault.{Fault}
use Rattle.ts_job.specs.declared.outcome.Outcome.{Outcome}
use Rattle.ts_job.specs.declared.outcome.Outcome.TheVariants as outcomes

abbrev pub bad_text : BadKind → List ℕ
bad_text bad.Truncated = codes "Truncated"
bad_text bad.Lengths = codes "Lengths"
bad_text bad.FixWord = codes "FixWord"
bad_text bad.CharType = codes "CharType"
bad_text bad.Index = codes "Index"
bad_text bad.Program = codes "Program"
bad_text bad.Ligature = codes "Ligature"

abbrev pub kind_text : FaultKind → List ℕ
kind_text kinds.FileMissing = codes "FileMissing"
kind_text (kinds.FontBad kind at) = codes "FontBad " ++ bad_text kind ++ codes " " ++ decimal at
kind_text kinds.FormNotBuilt = codes "FormNotBuilt"
kind_text (kinds.BadByte at) = codes "BadByte " ++ decimal at
kind_text kinds.LineTooLong = codes "LineTooLong"
kind_text kinds.TooManyLines = codes "TooManyLines"

-- FILE:LINE: KIND
abbrev pub fault_text : Fault → List ℕ
fault_text fault = fault.place.file ++ codes ":" ++ decimal fault.place.line ++ codes ": " ++ kind_text fault.kind ++ 10 ∷ []

abbrev pub usage_text : List ℕ
usage_text = codes "usage: typeset NAME [--kanji euc|jis|sjis] [--budget N] | list NAME | sample N" ++ 10 ∷ []

abbrev pub pages_text : ℕ → List ℕ
pages_text n = codes "pages " ++ decimal n ++ 10 ∷ []

-- what an outcome reports, where so many pages were shipped
unfoldable pub report_of : ℕ → Outcome → List ℕ
report_of pages outcomes.Done = pages_text pages
report_of pages (outcomes.SourceFault fault) = fault_text fault
report_of pages outcomes.Usage = usage_text
report_of pages outcomes.ReadFault = []
report_of pages outcomes.SinkFault = []
report_of pages outcomes.NoMemory = []
