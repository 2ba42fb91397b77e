-- The texts that a job reports.
use Rattle.std.specs.Prelude.{ℕ, List, [], ◌∷◌, ◌++◌, codes}
use Rattle.std.specs.Fmt.{decimal}
use Rattle.ts_geometry.specs.declared.fault.BadKind.{BadKind}
use Rattle.ts_geometry.specs.declared.fault.BadKind.TheVariants as bad
use Rattle.mouth.specs.declared.place.Place.{Place}
use Rattle.control_faults.specs.declared.kind.FaultKind.{FaultKind}
use Rattle.control_faults.specs.declared.kind.FaultKind.TheVariants as kinds
use Rattle.source_job.specs.declared.outcome.Outcome.{Outcome}
use Rattle.source_job.specs.declared.outcome.Outcome.TheVariants as outcomes

abbrev pub bad_text : BadKind → List ℕ
bad_text bad.Truncated = codes "Truncated"
bad_text bad.Lengths = codes "Lengths"
bad_text bad.FixWord = codes "FixWord"
bad_text bad.CharType = codes "CharType"
bad_text bad.Index = codes "Index"
bad_text bad.Program = codes "Program"
bad_text bad.Ligature = codes "Ligature"

-- the name of a kind, and its place where it has one
unfoldable pub kind_text : FaultKind → List ℕ
kind_text kinds.NotBuilt = codes "NotBuilt"
kind_text (kinds.BadByte at) = codes "BadByte " ++ decimal at
kind_text (kinds.FontBad kind at) = codes "FontBad " ++ bad_text kind ++ codes " " ++ decimal at
kind_text kinds.BadChar = codes "BadChar"
kind_text kinds.LineTooLong = codes "LineTooLong"
kind_text kinds.TooManyLines = codes "TooManyLines"
kind_text kinds.NamesFull = codes "NamesFull"
kind_text kinds.TokensFull = codes "TokensFull"
kind_text kinds.Undefined = codes "Undefined"
kind_text kinds.UseMismatch = codes "UseMismatch"
kind_text kinds.ArgParagraph = codes "ArgParagraph"
kind_text kinds.FileEnded = codes "FileEnded"
kind_text kinds.BadParameter = codes "BadParameter"
kind_text kinds.ExtraCond = codes "ExtraCond"
kind_text kinds.CsnameEnd = codes "CsnameEnd"
kind_text kinds.NoBrace = codes "NoBrace"
kind_text kinds.NoName = codes "NoName"
kind_text kinds.FileMissing = codes "FileMissing"
kind_text kinds.InputsFull = codes "InputsFull"
kind_text kinds.NoNumber = codes "NoNumber"
kind_text kinds.NumberRange = codes "NumberRange"
kind_text kinds.NoUnit = codes "NoUnit"
kind_text kinds.DimenRange = codes "DimenRange"
kind_text kinds.RegisterRange = codes "RegisterRange"
kind_text kinds.CodeRange = codes "CodeRange"
kind_text kinds.GroupEnd = codes "GroupEnd"
kind_text kinds.GroupsFull = codes "GroupsFull"
kind_text kinds.ListFull = codes "ListFull"
kind_text kinds.BoxTooLarge = codes "BoxTooLarge"
kind_text kinds.BoxTooDeep = codes "BoxTooDeep"
kind_text kinds.InfiniteShrink = codes "InfiniteShrink"
kind_text kinds.PlaceRange = codes "PlaceRange"
kind_text kinds.PagesFull = codes "PagesFull"
kind_text kinds.JobTooLarge = codes "JobTooLarge"
kind_text kinds.NotInMode = codes "NotInMode"
kind_text kinds.LeftOut = codes "LeftOut"
kind_text kinds.DirectionLate = codes "DirectionLate"
kind_text kinds.DirectionClash = codes "DirectionClash"
kind_text kinds.FontSize = codes "FontSize"
kind_text kinds.FontsFull = codes "FontsFull"
kind_text kinds.Arithmetic = codes "Arithmetic"
kind_text kinds.DeadCycles = codes "DeadCycles"
kind_text kinds.OutputHeld = codes "OutputHeld"
kind_text kinds.NoEnd = codes "NoEnd"
kind_text kinds.DepthFull = codes "DepthFull"

-- FILE:LINE: and what is met there
abbrev pub line_of : Place → List ℕ → List ℕ
line_of place what = place.file ++ codes ":" ++ decimal place.line ++ codes ": " ++ what ++ 10 ∷ []

abbrev pub usage_text : List ℕ
usage_text = codes "usage: typeset NAME [--kanji euc|jis|sjis] [--budget N] | list NAME | sample N" ++ 10 ∷ []

abbrev pub pages_text : ℕ → List ℕ
pages_text n = codes "pages " ++ decimal n ++ 10 ∷ []

-- what an outcome reports, where so many pages were shipped
unfoldable pub report_of : ℕ → Outcome → List ℕ
report_of pages outcomes.Done = pages_text pages
report_of pages (outcomes.SourceFault fault) = line_of fault.place (kind_text fault.kind)
report_of pages (outcomes.Budget place) = line_of place (codes "Budget")
report_of pages outcomes.Usage = usage_text
report_of pages outcomes.ReadFault = []
report_of pages outcomes.SinkFault = []
report_of pages outcomes.NoMemory = []
