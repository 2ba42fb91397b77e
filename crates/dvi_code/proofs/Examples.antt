-- Files that are right are read as their pages, and files that are wrong in one place give their fault.
use Rattle.std.proofs.Common.{◌≡◌, ℕ, List, [], ◌∷◌, ◌++◌, length, map, refl, pos, negsuc, Some, None, Result, Ok, Err, replicate}
use Rattle.ts_geometry.specs.declared.direction.Dir.TheVariants.{Yoko}
use Rattle.dvi_commands.specs.declared.fault.DviKind.TheVariants as kinds
use Rattle.dvi_commands.specs.declared.fault.DviBad.{DviBad}
use Rattle.dvi_commands.specs.declared.font.FontDef.{FontDef}
use Rattle.dvi_code.specs.declared.page.DviPage.{DviPage}
use Rattle.ts_outside.specs.Endings.{with_ending, metric_ending}
use Rattle.dvi_commands.specs.Fields.{unsigned, signed, counts, font_number}
use Rattle.dvi_commands.specs.Commands.{mark_after, group_after, right_after, down_after, font_after, font_def_after, file_after, pre_after, post_after, command_after, command}
use Rattle.dvi_structure.specs.Places.{placed}
use Rattle.dvi_structure.specs.Structure.{is_sound_font, inside, at_start, at_gap, in_page, at_back, filled, walk, fault_at, whole_sheets}
use Rattle.dvi_code.specs.Pages.{Widths, spot, glyph, drawn, all_drawn, pages_of, file_pages}

-- ---- the pieces of a file

-- the identification, the last bytes of the fraction's two numbers and of the magnification, and a comment
abbrev pre : ℕ → ℕ → ℕ → ℕ → List ℕ → List ℕ
pre id num den mag comment = 247 ∷ id ∷ 1 ∷ 131 ∷ 146 ∷ num ∷ 28 ∷ 59 ∷ 0 ∷ den ∷ 0 ∷ 0 ∷ 3 ∷ mag ∷ length comment ∷ comment

abbrev preamble : List ℕ
preamble = pre 2 192 0 232 []

abbrev minus_one : List ℕ
minus_one = replicate 4 255

abbrev page_begins : List ℕ
page_begins = 139 ∷ (replicate 40 0 ++ minus_one)

abbrev ten_points : List ℕ
ten_points = 0 ∷ 10 ∷ 0 ∷ 0 ∷ []

-- the definition of font 0, with the last byte of its check sum, its size, its design size and its name
abbrev font_def : ℕ → List ℕ → List ℕ → List ℕ → List ℕ
font_def check_sum size design name = 243 ∷ 0 ∷ 0 ∷ 0 ∷ 0 ∷ check_sum ∷ (size ++ design ++ 0 ∷ length name ∷ name)

abbrev jp10_name : List ℕ
jp10_name = 106 ∷ 112 ∷ 49 ∷ 48 ∷ []

abbrev definition : List ℕ
definition = font_def 0 ten_points ten_points jp10_name

abbrev body : List ℕ
body = 171 ∷ 141 ∷ 146 ∷ 0 ∷ 0 ∷ 0 ∷ 0 ∷ 160 ∷ 0 ∷ 8 ∷ 192 ∷ 0 ∷ 129 ∷ 36 ∷ 34 ∷ 142 ∷ 141 ∷ 146 ∷ 0 ∷ 10 ∷ 0 ∷ 0 ∷ 160 ∷ 0 ∷ 8 ∷ 192 ∷ 0 ∷ 129 ∷ 36 ∷ 36 ∷ 142 ∷ []

-- the place of the last bop, and the number of pages
abbrev post : List ℕ → ℕ → List ℕ
post back pages = 248 ∷ (back ++ 1 ∷ 131 ∷ 146 ∷ 192 ∷ 28 ∷ 59 ∷ 0 ∷ 0 ∷ 0 ∷ 0 ∷ 3 ∷ 232 ∷ 0 ∷ 10 ∷ 0 ∷ 0 ∷ 0 ∷ 20 ∷ 0 ∷ 0 ∷ 0 ∷ 1 ∷ 0 ∷ pages ∷ [])

abbrev postamble : List ℕ
postamble = post (0 ∷ 0 ∷ 0 ∷ 15 ∷ []) 1 ++ definition

-- the place of post, and the identification
abbrev post_post : ℕ → ℕ → List ℕ
post_post at id = 249 ∷ 0 ∷ 0 ∷ 0 ∷ at ∷ id ∷ []

abbrev fill : List ℕ
fill = replicate 5 223

-- a file whose page has these commands between bop and eop, for 51 bytes of them with a right end
abbrev with_page : List ℕ → List ℕ
with_page commands = preamble ++ page_begins ++ commands ++ 140 ∷ postamble ++ post_post 112 2 ++ fill

-- a file whose page is right, with another end
abbrev with_end : List ℕ → List ℕ
with_end end = preamble ++ page_begins ++ definition ++ body ++ 140 ∷ end

-- commands that change nothing, of twice so many bytes
abbrev idle : ℕ → List ℕ
idle n = replicate n 141 ++ replicate n 142

-- right4 by the greatest number, and by the least but one
abbrev far_right : List ℕ
far_right = 146 ∷ 127 ∷ 255 ∷ 255 ∷ 255 ∷ []

abbrev far_left : List ℕ
far_left = 146 ∷ 128 ∷ 0 ∷ 0 ∷ 1 ∷ []

abbrev full : Widths
full f code = Some (record { 0 = pos 655360 })

abbrev empty : Widths
empty f code = None

-- ---- files that are right

abbrev jp10 : FontDef
jp10 = record { number = pos 0; check_sum = 0; size = 655360; design = 655360; name = jp10_name }

is_read : file_pages full (with_page (definition ++ body)) ≡ Ok (record { counts = replicate 10 (pos 0); marks = glyph jp10 9250 (spot (pos 0) (pos 573440) Yoko) ∷ glyph jp10 9252 (spot (pos 655360) (pos 573440) Yoko) ∷ [] } ∷ [])
unfolding unsigned signed counts font_def_after pre_after post_after mark_after group_after right_after down_after font_number font_after file_after command_after command placed is_sound_font inside at_start at_gap in_page at_back filled walk drawn all_drawn pages_of
is_read = refl

-- a file with a comment and without pages
is_empty : file_pages empty (pre 2 192 0 232 (97 ∷ 98 ∷ []) ++ post minus_one 0 ++ post_post 17 3 ++ replicate 4 223) ≡ Ok []
unfolding unsigned signed counts font_def_after pre_after post_after mark_after group_after right_after down_after font_number font_after file_after command_after command placed is_sound_font inside at_start at_gap in_page at_back filled walk drawn all_drawn pages_of
is_empty = refl

-- an empty page, and one with the counts 1 to 10, the third below 0, and font 63 of area a/ and name b
abbrev two_pages : List ℕ → List ℕ
two_pages commands =
    preamble ++ page_begins ++ 140 ∷ 139 ∷ 0 ∷ 0 ∷ 0 ∷ 1 ∷ 0 ∷ 0 ∷ 0 ∷ 2 ∷ 255 ∷ 255 ∷ 255 ∷ 253 ∷ 0 ∷ 0 ∷ 0 ∷ 4 ∷ 0 ∷ 0 ∷ 0 ∷ 5 ∷ 0 ∷ 0 ∷ 0 ∷ 6 ∷ 0 ∷ 0 ∷ 0 ∷ 7 ∷ 0 ∷ 0 ∷ 0 ∷ 8 ∷ 0 ∷ 0 ∷ 0 ∷ 9 ∷ 0 ∷ 0 ∷ 0 ∷ 10 ∷ 0 ∷ 0 ∷ 0 ∷ 15 ∷
    (243 ∷ 63 ∷ 0 ∷ 0 ∷ 1 ∷ 2 ∷ 0 ∷ 10 ∷ 0 ∷ 0 ∷ 0 ∷ 5 ∷ 0 ∷ 0 ∷ 2 ∷ 1 ∷ 97 ∷ 47 ∷ 98 ∷ commands) ++ 140 ∷ post (0 ∷ 0 ∷ 0 ∷ 61 ∷ []) 2 ++ post_post 158 3 ++ 223 ∷ 223 ∷ fill

-- movements of 1 to 4 bytes, to the right by -2, 256, 65536 and -1, down by 3, -256, -65536 and 16777216
abbrev movements : List ℕ
movements = 143 ∷ 254 ∷ 144 ∷ 1 ∷ 0 ∷ 145 ∷ 1 ∷ 0 ∷ 0 ∷ (146 ∷ minus_one) ++ 157 ∷ 3 ∷ 158 ∷ 255 ∷ 0 ∷ 159 ∷ 255 ∷ 0 ∷ 0 ∷ 160 ∷ 1 ∷ 0 ∷ 0 ∷ 0 ∷ []

abbrev a_b : FontDef
a_b = record { number = pos 63; check_sum = 258; size = 655360; design = 327680; name = 97 ∷ 47 ∷ 98 ∷ [] }

are_read : file_pages full (two_pages (234 ∷ movements ++ 129 ∷ 255 ∷ 254 ∷ [])) ≡ Ok (
    record { counts = replicate 10 (pos 0); marks = [] }
    ∷ record { counts = pos 1 ∷ pos 2 ∷ negsuc 2 ∷ pos 4 ∷ pos 5 ∷ pos 6 ∷ pos 7 ∷ pos 8 ∷ pos 9 ∷ pos 10 ∷ []; marks = glyph a_b 65534 (spot (pos 65789) (pos 16711427) Yoko) ∷ [] }
    ∷ [])
unfolding unsigned signed counts font_def_after pre_after post_after mark_after group_after right_after down_after font_number font_after file_after command_after command placed is_sound_font inside at_start at_gap in_page at_back filled walk drawn all_drawn pages_of
are_read = refl

-- whole pages: after eop, before it, in the second page, in a whole file
whole_pages : map (λ (bytes : List ℕ). length (whole_sheets bytes)) (with_end [] ∷ (preamble ++ page_begins ++ definition ++ body) ∷ (preamble ++ page_begins ++ 140 ∷ 139 ∷ []) ∷ two_pages (idle 16) ∷ []) ≡ 1 ∷ 0 ∷ 1 ∷ 2 ∷ []
unfolding unsigned signed counts font_def_after pre_after post_after mark_after group_after right_after down_after font_number font_after file_after command_after command placed is_sound_font inside at_start at_gap in_page at_back filled walk
whole_pages = refl

-- ---- files that are wrong, each with its fault

abbrev Wrong : Type 0
Wrong = List ℕ × DviBad

abbrev read_by : Widths → Wrong → Result (List DviPage) DviBad
read_by widths w = file_pages widths w.0

abbrev refused : Wrong → Result (List DviPage) DviBad
refused w = Err w.1

abbrev wrong_structures : List Wrong
wrong_structures =
    ([], fault_at 0 kinds.Truncated)
    ∷ (with_end [], fault_at 112 kinds.Truncated)
    ∷ (with_end (248 ∷ 0 ∷ []), fault_at 112 kinds.Truncated)
    ∷ (preamble ++ page_begins ++ 243 ∷ 0 ∷ 0 ∷ 0 ∷ 0 ∷ 0 ∷ (ten_points ++ ten_points) ++ 1 ∷ 4 ∷ jp10_name, fault_at 60 kinds.Truncated)
    ∷ (with_page (definition ++ 250 ∷ body), fault_at 80 kinds.Opcode)
    ∷ (250 ∷ [], fault_at 0 kinds.Opcode)
    ∷ (pre 3 192 0 232 [], fault_at 0 kinds.Preamble)
    ∷ (pre 2 191 0 232 [], fault_at 0 kinds.Preamble)
    ∷ (pre 2 192 1 232 [], fault_at 0 kinds.Preamble)
    ∷ (pre 2 192 0 233 [], fault_at 0 kinds.Preamble)
    ∷ (140 ∷ [], fault_at 0 kinds.Preamble)
    ∷ (preamble ++ 140 ∷ [], fault_at 15 kinds.Misplaced)
    ∷ (preamble ++ preamble, fault_at 15 kinds.Misplaced)
    ∷ (with_page (definition ++ preamble), fault_at 80 kinds.Misplaced)
    ∷ (with_page page_begins, fault_at 60 kinds.Misplaced)
    ∷ (with_end (post_post 112 2), fault_at 112 kinds.Misplaced)
    ∷ (with_end (postamble ++ postamble), fault_at 161 kinds.Misplaced)
    ∷ (preamble ++ 139 ∷ replicate 44 0, fault_at 15 kinds.BackPointer)
    ∷ (with_end page_begins, fault_at 112 kinds.BackPointer)
    ∷ (with_end (post (0 ∷ 0 ∷ 0 ∷ 14 ∷ []) 2), fault_at 112 kinds.BackPointer)
    ∷ (with_end (postamble ++ post_post 111 4 ++ fill), fault_at 161 kinds.BackPointer)
    ∷ (with_page (font_def 0 (0 ∷ 0 ∷ 0 ∷ 0 ∷ []) ten_points jp10_name), fault_at 60 kinds.FontDef)
    ∷ (with_page (font_def 0 (0 ∷ 128 ∷ 0 ∷ 0 ∷ []) ten_points jp10_name), fault_at 60 kinds.FontDef)
    ∷ (with_page (font_def 0 ten_points ten_points []), fault_at 60 kinds.FontDef)
    ∷ (with_page (font_def 0 ten_points ten_points (replicate 252 97)), fault_at 60 kinds.FontDef)
    ∷ (with_page (definition ++ font_def 1 ten_points ten_points jp10_name), fault_at 80 kinds.FontDef)
    ∷ (with_page (definition ++ font_def 0 (0 ∷ 10 ∷ 0 ∷ 1 ∷ []) ten_points jp10_name), fault_at 80 kinds.FontDef)
    ∷ (with_page (definition ++ font_def 0 ten_points (0 ∷ 10 ∷ 0 ∷ 1 ∷ []) jp10_name), fault_at 80 kinds.FontDef)
    ∷ (with_page (definition ++ font_def 0 ten_points ten_points (106 ∷ [])), fault_at 80 kinds.FontDef)
    ∷ (with_page (definition ++ 172 ∷ []), fault_at 80 kinds.FontUndefined)
    ∷ (with_page (definition ++ 129 ∷ 36 ∷ 34 ∷ []), fault_at 80 kinds.FontUndefined)
    ∷ (with_page (definition ++ body ++ 142 ∷ []), fault_at 111 kinds.Stack)
    ∷ (with_page (definition ++ body ++ 141 ∷ []), fault_at 112 kinds.Stack)
    ∷ (with_end (post (0 ∷ 0 ∷ 0 ∷ 15 ∷ []) 0), fault_at 112 kinds.Postamble)
    ∷ (with_end (post (0 ∷ 0 ∷ 0 ∷ 15 ∷ []) 2), fault_at 112 kinds.Postamble)
    ∷ (with_end (postamble ++ post_post 112 4 ++ fill), fault_at 161 kinds.Postamble)
    ∷ (with_end (postamble ++ post_post 112 2 ++ 223 ∷ 223 ∷ 222 ∷ []), fault_at 169 kinds.Postamble)
    ∷ (with_end (postamble ++ post_post 112 2 ++ 223 ∷ []), fault_at 168 kinds.Postamble)
    ∷ (with_end (postamble ++ post_post 112 2 ++ 223 ∷ fill), fault_at 173 kinds.Postamble)
    ∷ (with_end (postamble ++ post_post 112 2 ++ 223 ∷ 223 ∷ fill), fault_at 174 kinds.Postamble)
    ∷ []

structures_are_refused : map (read_by full) wrong_structures ≡ map refused wrong_structures
unfolding unsigned signed counts font_def_after pre_after post_after mark_after group_after right_after down_after font_number font_after file_after command_after command placed is_sound_font inside at_start at_gap in_page at_back filled walk drawn all_drawn pages_of
structures_are_refused = refl

-- No character has a width.
width_is_missed : file_pages empty (with_page (definition ++ body)) ≡ Err (fault_at 92 kinds.Width)
unfolding unsigned signed counts font_def_after pre_after post_after mark_after group_after right_after down_after font_number font_after file_after command_after command placed is_sound_font inside at_start at_gap in_page at_back filled walk drawn all_drawn pages_of
width_is_missed = refl

-- to the right, to the left, downwards and by a glyph; and a wrong structure further on, which counts first
abbrev wrong_places : List Wrong
wrong_places =
    (with_page (definition ++ far_right ++ 143 ∷ 255 ∷ 143 ∷ 1 ∷ 143 ∷ 1 ∷ idle 10), fault_at 89 kinds.Range)
    ∷ (with_page (definition ++ far_left ++ 143 ∷ 255 ∷ idle 12), fault_at 85 kinds.Range)
    ∷ (with_page (definition ++ 160 ∷ 127 ∷ 255 ∷ 255 ∷ 255 ∷ 157 ∷ 1 ∷ idle 12), fault_at 85 kinds.Range)
    ∷ (with_page (definition ++ 171 ∷ far_right ++ 129 ∷ 36 ∷ 34 ∷ idle 11), fault_at 86 kinds.Range)
    ∷ (preamble ++ page_begins ++ definition ++ far_right ++ 143 ∷ 1 ∷ 142 ∷ [], fault_at 87 kinds.Stack)
    ∷ []

places_are_refused : map (read_by full) wrong_places ≡ map refused wrong_places
unfolding unsigned signed counts font_def_after pre_after post_after mark_after group_after right_after down_after font_number font_after file_after command_after command placed is_sound_font inside at_start at_gap in_page at_back filled walk drawn all_drawn pages_of
places_are_refused = refl

-- ---- endings: a.b and a/b. have one, ab and a./b have none

endings : map (with_ending metric_ending) ((97 ∷ 46 ∷ 98 ∷ []) ∷ (97 ∷ 47 ∷ 98 ∷ 46 ∷ []) ∷ (97 ∷ 98 ∷ []) ∷ (97 ∷ 46 ∷ 47 ∷ 98 ∷ []) ∷ [])
    ≡ (97 ∷ 46 ∷ 98 ∷ []) ∷ (97 ∷ 47 ∷ 98 ∷ 46 ∷ []) ∷ (97 ∷ 98 ∷ 46 ∷ 116 ∷ 102 ∷ 109 ∷ []) ∷ (97 ∷ 46 ∷ 47 ∷ 98 ∷ 46 ∷ 116 ∷ 102 ∷ 109 ∷ []) ∷ []
endings = refl
