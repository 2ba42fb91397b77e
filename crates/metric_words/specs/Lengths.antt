-- The lengths with which a metric file begins, and where they put its parts. A TFM begins with twelve halfwords (TeX: The
-- Program, section 540); a JFM has its direction and nt, the number of its character types, before them (the JFM specification).
use Rattle.std.specs.Prelude.{ℕ, ◌+◌, ◌*◌, ◌-◌, Bool, List, length, Result, Ok, Err, ◌==◌, nat_lt, nat_le, ◌&&◌, ◌||◌, not, if◌then◌else◌}
use Rattle.ts_geometry.specs.declared.fault.BadKind.TheVariants.{Truncated, Lengths as WrongLengths}
use Rattle.ts_geometry.specs.declared.fault.MetricFault.{MetricFault}
use Rattle.ts_geometry.specs.declared.fault.MetricFault.TheVariants.{Bad}
use Rattle.metric_words.specs.declared.lengths.Lengths.{Lengths}
use Rattle.metric_words.specs.Words.{halfword}

-- Does a file begin as a JFM does, with the halfword 11 for yoko or 9 for tate? That of a TFM is another one.
abbrev pub begins_as_jfm : List ℕ → Bool
begins_as_jfm file = nat_le 2 (length file) && (halfword file 0 == 11 || halfword file 0 == 9)

-- the lengths of which the twelve that both formats have begin at that halfword
unfoldable pub lengths_at : List ℕ → ℕ → ℕ → ℕ → Lengths
lengths_at file front nt first = record {
  front = front;
  nt = nt;
  lf = halfword file first;
  lh = halfword file (first + 1);
  bc = halfword file (first + 2);
  ec = halfword file (first + 3);
  nw = halfword file (first + 4);
  nh = halfword file (first + 5);
  nd = halfword file (first + 6);
  ni = halfword file (first + 7);
  nl = halfword file (first + 8);
  nk = halfword file (first + 9);
  ng = halfword file (first + 10);
  np = halfword file (first + 11);
}

-- how many characters or classes there are
abbrev pub char_count : Lengths → ℕ
char_count l = l.ec + 1 - l.bc

-- where each part begins, in words: where the part before it ends
abbrev pub header_start : Lengths → ℕ
header_start l = l.front

abbrev pub char_type_start : Lengths → ℕ
char_type_start l = header_start l + l.lh

abbrev pub char_info_start : Lengths → ℕ
char_info_start l = char_type_start l + l.nt

abbrev pub width_start : Lengths → ℕ
width_start l = char_info_start l + char_count l

abbrev pub height_start : Lengths → ℕ
height_start l = width_start l + l.nw

abbrev pub depth_start : Lengths → ℕ
depth_start l = height_start l + l.nh

abbrev pub italic_start : Lengths → ℕ
italic_start l = depth_start l + l.nd

abbrev pub program_start : Lengths → ℕ
program_start l = italic_start l + l.ni

abbrev pub kern_start : Lengths → ℕ
kern_start l = program_start l + l.nl

abbrev pub glue_start : Lengths → ℕ
glue_start l = kern_start l + l.nk

abbrev pub param_start : Lengths → ℕ
param_start l = glue_start l + l.ng

abbrev pub file_end : Lengths → ℕ
file_end l = param_start l + l.np

-- the lengths that contradict each other, in both formats
unfoldable pub contradict : Lengths → Bool
contradict l =
    not (l.lf == file_end l) || nat_lt l.lh 2 || l.nw == 0 || l.nh == 0 || l.nd == 0 || l.ni == 0 || nat_lt 255 l.ec
    || nat_lt (l.ec + 1) l.bc

-- the lengths of a file, or what is wrong with them, also for another reason, or with the length of the file
abbrev pub lengths_within : List ℕ → Lengths → Bool → Result Lengths MetricFault
lengths_within file l wrong =
    if contradict l || wrong then Err (Bad WrongLengths 0)
    else (if nat_lt (length file) (4 * l.lf) then Err (Bad Truncated (length file)) else Ok l)
