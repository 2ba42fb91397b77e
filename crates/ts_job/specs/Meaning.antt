-- What a source means: the page that it ships, or its first fault.
use Rattle.std.specs.Prelude.{ℕ, List, [], ◌∷◌, length, ℤ, pos, ◌+ℤ◌, Bool, Result, Ok, Err, Option, Some, None, ◌==◌, ◌&&◌, ◌||◌, nat_lt, nat_le, fold, map, not, if◌then◌else◌}
use Rattle.std.specs.Int.{int_max}
use Rattle.std.specs.Option.{ok_or}
use Rattle.ts_geometry.specs.declared.fault.MetricFault.{MetricFault}
use Rattle.ts_geometry.specs.declared.fault.MetricFault.TheVariants.{Bad, NoMemory as MetricNoMemory}
use Rattle.jis_codes.specs.Kuten.{Kuten}
use Rattle.jis_codes.specs.Spellings.{jis}
use Rattle.jis_codes.specs.Numbers.{number_of}
use Rattle.ts_base.specs.Agreement.{◌>>=◌, with_fault, Cause, Determined, Counted, Free}
use Rattle.ts_outside.specs.States.{Held}
use Rattle.ts_outside.specs.Reading.{bytes_of}
use Rattle.ts_outside.specs.Endings.{with_ending, metric_ending}
use Rattle.jis_codes.specs.declared.character.Char.{Char}
use Rattle.input_codings.specs.declared.fault.LineFault.{LineFault}
use Rattle.input_codings.specs.declared.fault.LineFault.TheVariants as lines
use Rattle.input_codings.specs.declared.fault.OpenFault.{OpenFault}
use Rattle.input_codings.specs.declared.fault.OpenFault.TheVariants as opens
use Rattle.input_codings.specs.Lines.{opened, next_line}
use Rattle.metric_words.specs.Words.{halfword}
use Rattle.metric_words.specs.Lengths.{begins_as_jfm}
use Rattle.jfm_load.specs.Metrics.{Metric, metric_of, class_of, measures_of}
use Rattle.dvi_commands.specs.declared.font.FontDef.{FontDef}
use Rattle.dvi_code.specs.declared.page.DviPage.{DviPage}
use Rattle.ts_job.specs.declared.fault.FaultKind.TheVariants.{FileMissing, FontBad, FormNotBuilt, BadByte, LineTooLong, TooManyLines}
use Rattle.ts_job.specs.declared.stop.Stop.{Stop}
use Rattle.ts_job.specs.declared.stop.Stop.TheVariants as stops
use Rattle.ts_job.specs.declared.writer.page.Glyph.{Glyph}
use Rattle.ts_job.specs.Words.{Request}
use Rattle.ts_job.specs.Form.{Form, form_of}
use Rattle.ts_job.specs.Meant.{page_meant}

-- a file that isn't there
abbrev pub open_fault : OpenFault → Stop
open_fault opens.Missing = stops.Fault FileMissing 0
open_fault opens.ReadFault = stops.ReadFault
open_fault opens.NoMemory = stops.NoMemory

-- a fault of the first line
abbrev pub line_fault : LineFault → Stop
line_fault lines.TooManyLines = stops.Fault TooManyLines 1
line_fault lines.LineTooLong = stops.Fault LineTooLong 1
line_fault (lines.BadByte at) = stops.Fault (BadByte at) 1
line_fault lines.ReadFault = stops.ReadFault
line_fault lines.NoMemory = stops.NoMemory

-- the form of a line; a file without a line has none
abbrev pub form_on : Option (List Char) → Option Form
form_on None = None
form_on (Some characters) = form_of characters

-- the first line of the main file
unfoldable pub first_line : List Held → Request → Result (Option (List Char)) Stop
first_line files request =
    with_fault open_fault (opened request.coding (bytes_of files request.main)) >>= λ lines. with_fault line_fault (next_line lines) >>= λ next. Ok next.0

-- the form of the main file: later lines aren't needed
unfoldable pub source_form : List Held → Request → Result Form Stop
source_form files request = first_line files request >>= λ line. ok_or (form_on line) (stops.Fault FormNotBuilt 0)

-- a metric's fault is the fault of its font
abbrev pub font_fault : MetricFault → Stop
font_fault (Bad kind at) = stops.Fault (FontBad kind at) 1
font_fault MetricNoMemory = stops.NoMemory

-- 10 pt in scaled points
abbrev pub ten_points : ℕ
ten_points = 655360

-- a metric for yoko lines of the one size that is built
abbrev pub is_built : Metric → Bool
is_built metric = not metric.is_tate && metric.design == ten_points

-- Is a file a JFM, by its first halfword, if it has one?
abbrev pub may_be_jfm : List ℕ → Bool
may_be_jfm bytes = nat_lt (length bytes) 2 || begins_as_jfm bytes

-- Has a JFM programs, kerns or glue, by its lengths nl, nk and ng?
abbrev pub has_programs : List ℕ → Bool
has_programs bytes = nat_le 28 (length bytes) && not (halfword bytes 10 == 0 && halfword bytes 11 == 0 && halfword bytes 12 == 0)

abbrev pub or_not_built : Bool → Metric → Result Metric Stop
or_not_built programs metric = if not programs && is_built metric then Ok metric else Err (stops.Fault FormNotBuilt 0)

-- the metric of a file, if it is one that is built
abbrev pub built : List ℕ → Result Metric Stop
built bytes =
    if may_be_jfm bytes then with_fault font_fault (metric_of bytes) >>= or_not_built (has_programs bytes)
    else Err (stops.Fault FormNotBuilt 0)

-- the metric of the form's font
unfoldable pub font_metric : List Held → Form → Result Metric Stop
font_metric files form = ok_or (bytes_of files (with_ending metric_ending form.name)) (stops.Fault FileMissing 1) >>= λ bytes. built bytes

-- the measures of a character
abbrev pub width_of : Metric → Kuten → ℤ
width_of metric k = (measures_of metric (class_of metric k) ten_points).wd.0

abbrev pub height_of : Metric → Kuten → ℤ
height_of metric k = (measures_of metric (class_of metric k) ten_points).ht.0

abbrev pub depth_of : Metric → Kuten → ℤ
depth_of metric k = (measures_of metric (class_of metric k) ten_points).dp.0

-- the height of a box of characters: the greatest of theirs and 0
abbrev pub box_height : Metric → List Kuten → ℤ
box_height metric cells = fold int_max (pos 0) (map (height_of metric) cells)

-- and its depth
abbrev pub box_depth : Metric → List Kuten → ℤ
box_depth metric cells = fold int_max (pos 0) (map (depth_of metric) cells)

-- characters side by side, from a point on
abbrev pub glyphs_from : Metric → ℤ → ℤ → List Kuten → List Glyph
glyphs_from metric x y [] = []
glyphs_from metric x y (k ∷ ks) =
    record { code = number_of jis k; at = record { x = record { 0 = x }; y = record { 0 = y } } } ∷ glyphs_from metric (x +ℤ width_of metric k) y ks

abbrev pub font_def : Form → Metric → FontDef
font_def form metric = record { number = pos 0; check_sum = metric.check_sum; size = ten_points; design = ten_points; name = form.name }

-- the page of a box of characters, whose top left corner is the page's
abbrev pub page_of : Form → Metric → DviPage
page_of form metric = page_meant (font_def form metric) (glyphs_from metric (pos 0) (box_height metric form.cells) form.cells)

-- the page that a source ships, or its first fault
unfoldable pub typeset : List Held → Request → Result DviPage Stop
typeset files request = source_form files request >>= λ form. font_metric files form >>= λ metric. Ok (page_of form metric)

-- why a job stops
abbrev pub stop_cause : Stop → Cause
stop_cause (stops.Fault kind line) = Determined
stop_cause stops.ReadFault = Counted
stop_cause stops.NoMemory = Free
