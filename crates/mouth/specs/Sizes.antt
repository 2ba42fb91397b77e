-- How much may still be read, whatever the bytes of the files are: what expansion makes less with each step.
use Rattle.std.specs.Prelude.{ℕ, ◌+◌, ◌*◌, List, [], ◌∷◌, length}
use Rattle.kcat_eyes.specs.Sights.{ahead}
use Rattle.mouth.specs.Reading.{OpenFile, Reading}
use Rattle.mouth.specs.Keeping.{FileView, MouthView}

-- the characters ahead in a file, by the limits of lines, and its pending tokens
abbrev pub file_size : OpenFile → ℕ
file_size file = ahead file.sight.lines.line_no file.sight.rest + length file.pending

abbrev pub files_size : List OpenFile → ℕ
files_size [] = 0
files_size (file ∷ files) = file_size file + files_size files

-- what is unread and what is pending in all files
unfoldable pub unread : Reading → ℕ
unread r = file_size r.innermost + files_size r.below

-- the size of a file that is kept
abbrev pub size_in : FileView → ℕ
size_in file = ahead file.eyes.lines.line_no file.eyes.rest + length file.pending

abbrev pub sizes_in : List FileView → ℕ
sizes_in [] = 0
sizes_in (file ∷ files) = size_in file + sizes_in files

-- what is unread and what is pending, by what is kept
abbrev pub kept_size : MouthView → ℕ
kept_size mouth = size_in mouth.innermost + sizes_in mouth.below

-- how many characters a file has at most: 1,000,000 lines of 65,536 characters
abbrev pub most_in_file : ℕ
most_in_file = 65536000000

-- A unit weighs more than a file and a full list of tokens.
abbrev pub unit_weight : ℕ
unit_weight = 100000000000

-- the same, and the units left
unfoldable pub size : Reading → ℕ
size r = r.units * unit_weight + unread r
