-- The commands of a DVI file (TeX: The Program, sections 585 to 590): what they say, wherever they
-- stand, and how one is read at the front of bytes. Command 255 is pTeX's.
use Rattle.std.specs.Prelude.{ℕ, ◌-◌, List, ◌++◌, Ok, Err, ℤ, pos, Option, Some, None, nat_eq, nat_le, if◌then◌else◌}
use Rattle.ts_geometry.specs.declared.direction.Dir.{Dir}
use Rattle.ts_geometry.specs.declared.direction.Dir.TheVariants.{Yoko, Tate, Dtou}
use Rattle.ts_base.specs.Agreement.{◌>>=◌}
use Rattle.dvi_commands.specs.declared.fault.DviKind.TheVariants.{Opcode}
use Rattle.dvi_commands.specs.declared.font.FontDef.{FontDef}
use Rattle.dvi_commands.specs.declared.command.Command as code
use Rattle.dvi_commands.specs.declared.command.Command.TheVariants as said
use Rattle.dvi_commands.specs.Fields.{Field, byte, text, unsigned, signed, counts, font_number, text_of}

-- the identification of the format, the unit of its numbers as a fraction of 10^-7 m, the
-- magnification in thousandths, a comment
pub record Preamble : Type 0 where
  pub id : ℕ
  pub num : ℕ
  pub den : ℕ
  pub mag : ℕ
  pub comment : List ℕ

-- The place of the last bop, unit and magnification again, the greatest height with depth and width
-- of a page, the greatest number of positions pushed at once, and the number of pages.
pub record Postamble : Type 0 where
  pub back : ℤ
  pub num : ℕ
  pub den : ℕ
  pub mag : ℕ
  pub height : ℕ
  pub width : ℕ
  pub stack : ℕ
  pub pages : ℕ

-- a definition of a font as it is spelt: its number, its check sum, its size and design size, its
-- area and its name
pub record Definition : Type 0 where
  pub number : ℤ
  pub check_sum : ℕ
  pub size : ℕ
  pub design : ℕ
  pub area : List ℕ
  pub name : List ℕ

-- the font that is defined: its area and its name count together
abbrev pub font_defined : Definition → FontDef
font_defined d = record {
  number = d.number;
  check_sum = d.check_sum;
  size = d.size;
  design = d.design;
  name = d.area ++ d.name;
}

-- set and put of a code; set_rule and put_rule of a height and a width; movements along and across,
-- by w, x, y and z too
pub data Command : Type 0 where
  set : ℕ → Command
  put : ℕ → Command
  set_rule : ℤ → ℤ → Command
  put_rule : ℤ → ℤ → Command
  nop : Command
  bop : List ℤ → ℤ → Command
  eop : Command
  push : Command
  pop : Command
  right : ℤ → Command
  w0 : Command
  w : ℤ → Command
  x0 : Command
  x : ℤ → Command
  down : ℤ → Command
  y0 : Command
  y : ℤ → Command
  z0 : Command
  z : ℤ → Command
  font : ℤ → Command
  xxx : List ℕ → Command
  font_def : Definition → Command
  pre : Preamble → Command
  post : Postamble → Command
  post_post : ℤ → ℕ → Command
  direction : ℕ → Command

-- the direction of writing that a byte stands for
abbrev pub dir_of : ℕ → Option Dir
dir_of d = if nat_eq d 0 then Some Yoko else (if nat_eq d 1 then Some Tate
    else (if nat_eq d 3 then Some Dtou else None))

-- ---- reading

-- glyphs and rules: opcodes up to 137
unfoldable pub mark_after : ℕ → List ℕ → Field Command
mark_after op bytes =
    if nat_le op 127 then Ok (set op, bytes)
    else (if nat_le op 131 then (unsigned (op - 127) bytes >>= λ code. Ok (set code.0, code.1))
    else (if nat_eq op 132 then (signed 4 bytes >>= λ height. signed 4 height.1
    >>= λ width. Ok (set_rule height.0 width.0, width.1))
    else (if nat_le op 136 then (unsigned (op - 132) bytes >>= λ code. Ok (put code.0, code.1))
    else (signed 4 bytes >>= λ height. signed 4 height.1
    >>= λ width. Ok (put_rule height.0 width.0, width.1)))))

-- nothing, and what begins and ends a page or a group: opcodes 138 to 142
unfoldable pub group_after : ℕ → List ℕ → Field Command
group_after op bytes =
    if nat_eq op 138 then Ok (nop, bytes)
    else (if nat_eq op 139 then (counts 10 bytes >>= λ cs. signed 4 cs.1
    >>= λ back. Ok (bop cs.0 back.0, back.1))
    else (if nat_eq op 140 then Ok (eop, bytes)
    else (if nat_eq op 141 then Ok (push, bytes)
    else Ok (pop, bytes))))

-- movements to the right: opcodes 143 to 156
unfoldable pub right_after : ℕ → List ℕ → Field Command
right_after op bytes =
    if nat_le op 146 then (signed (op - 142) bytes >>= λ n. Ok (right n.0, n.1))
    else (if nat_eq op 147 then Ok (w0, bytes)
    else (if nat_le op 151 then (signed (op - 147) bytes >>= λ n. Ok (w n.0, n.1))
    else (if nat_eq op 152 then Ok (x0, bytes)
    else (signed (op - 152) bytes >>= λ n. Ok (x n.0, n.1)))))

-- movements down: opcodes 157 to 170
unfoldable pub down_after : ℕ → List ℕ → Field Command
down_after op bytes =
    if nat_le op 160 then (signed (op - 156) bytes >>= λ n. Ok (down n.0, n.1))
    else (if nat_eq op 161 then Ok (y0, bytes)
    else (if nat_le op 165 then (signed (op - 161) bytes >>= λ n. Ok (y n.0, n.1))
    else (if nat_eq op 166 then Ok (z0, bytes)
    else (signed (op - 166) bytes >>= λ n. Ok (z n.0, n.1)))))

-- a definition of a font after its number
unfoldable pub font_def_after : ℤ → List ℕ → Field Command
font_def_after number bytes = do
  check_sum ← unsigned 4 bytes
  size ← unsigned 4 check_sum.1
  design ← unsigned 4 size.1
  area_len ← byte design.1
  name_len ← byte area_len.1
  area ← text area_len.0 name_len.1
  name ← text name_len.0 area.1
  Ok (
    font_def (record {
      number = number;
      check_sum = check_sum.0;
      size = size.0;
      design = design.0;
      area = area.0;
      name = name.0;
    }),
    name.1,
  )

-- fonts and what other programs read: opcodes 171 to 246
unfoldable pub font_after : ℕ → List ℕ → Field Command
font_after op bytes =
    if nat_le op 234 then Ok (font (pos (op - 171)), bytes)
    else (if nat_le op 238 then (font_number (op - 234) bytes >>= λ n. Ok (font n.0, n.1))
    else (if nat_le op 242 then (unsigned (op - 238) bytes >>= λ len. text len.0 len.1
    >>= λ t. Ok (xxx t.0, t.1))
    else (font_number (op - 242) bytes >>= λ n. font_def_after n.0 n.1)))

unfoldable pub pre_after : List ℕ → Field Command
pre_after bytes = do
  id ← byte bytes
  num ← unsigned 4 id.1
  den ← unsigned 4 num.1
  mag ← unsigned 4 den.1
  len ← byte mag.1
  comment ← text len.0 len.1
  Ok (
    pre (record {
      id = id.0;
      num = num.0;
      den = den.0;
      mag = mag.0;
      comment = comment.0;
    }),
    comment.1,
  )

unfoldable pub post_after : List ℕ → Field Command
post_after bytes = do
  back ← signed 4 bytes
  num ← unsigned 4 back.1
  den ← unsigned 4 num.1
  mag ← unsigned 4 den.1
  height ← unsigned 4 mag.1
  width ← unsigned 4 height.1
  stack ← unsigned 2 width.1
  pages ← unsigned 2 stack.1
  Ok (
    post (record {
      back = back.0;
      num = num.0;
      den = den.0;
      mag = mag.0;
      height = height.0;
      width = width.0;
      stack = stack.0;
      pages = pages.0;
    }),
    pages.1,
  )

-- what begins and ends a file, and directions: opcodes from 247 on
unfoldable pub file_after : ℕ → List ℕ → Field Command
file_after op bytes =
    if nat_eq op 247 then pre_after bytes
    else (if nat_eq op 248 then post_after bytes
    else (if nat_eq op 249 then (signed 4 bytes >>= λ at. byte at.1
    >>= λ id. Ok (post_post at.0 id.0, id.1))
    else (if nat_eq op 255 then (byte bytes >>= λ d. Ok (direction d.0, d.1))
    else Err Opcode)))

-- the command of an opcode, from the bytes after it
unfoldable pub command_after : ℕ → List ℕ → Field Command
command_after op bytes =
    if nat_le op 137 then mark_after op bytes
    else (if nat_le op 142 then group_after op bytes
    else (if nat_le op 156 then right_after op bytes
    else (if nat_le op 170 then down_after op bytes
    else (if nat_le op 246 then font_after op bytes
    else file_after op bytes))))

-- the command at the front, and the bytes after it
unfoldable pub command : List ℕ → Field Command
command bytes = byte bytes >>= λ op. command_after op.0 op.1

-- ---- the commands that are read

-- what a command that was read in a file says, with the texts that its parts show there
abbrev pub meant : List ℕ → code.Command → Command
meant bytes (said.Set code) = set code
meant bytes (said.Put code) = put code
meant bytes (said.SetRule height width) = set_rule height width
meant bytes (said.PutRule height width) = put_rule height width
meant bytes said.Nop = nop
meant bytes (said.Bop counts back) = bop counts back
meant bytes said.Eop = eop
meant bytes said.Push = push
meant bytes said.Pop = pop
meant bytes (said.Right n) = right n
meant bytes said.W0 = w0
meant bytes (said.W n) = w n
meant bytes said.X0 = x0
meant bytes (said.X n) = x n
meant bytes (said.Down n) = down n
meant bytes said.Y0 = y0
meant bytes (said.Y n) = y n
meant bytes said.Z0 = z0
meant bytes (said.Z n) = z n
meant bytes (said.Font n) = font n
meant bytes (said.Xxx part) = xxx (text_of bytes part)
meant bytes (said.FontDef number check_sum size design area name) =
    font_def (record {
      number = number;
      check_sum = check_sum;
      size = size;
      design = design;
      area = text_of bytes area;
      name = text_of bytes name;
    })
meant bytes (said.Pre id num den mag comment) =
    pre (record { id = id; num = num; den = den; mag = mag; comment = text_of bytes comment })
meant bytes (said.Post back num den mag height width stack pages) =
    post (record {
      back = back;
      num = num;
      den = den;
      mag = mag;
      height = height;
      width = width;
      stack = stack;
      pages = pages;
    })
meant bytes (said.PostPost at id) = post_post at id
meant bytes (said.Direction d) = direction d
