-- What stays where files are kept, and where the environment gets a font or selects one.
use Rattle.std.proofs.Common.{◌≡◌, ◌∙◌, ◌<◌, ℕ, suc, Bool, true, List, [], ◌∷◌, length, map, Option, refl, ap}
use Rattle.ts_outside.specs.States.{Held, FilesState, KeepsAll, AllOpen, AllTold}
use Rattle.tok_lists.specs.declared.spelling.Spelling.{Spelling}
use Rattle.box_tree.specs.declared.item.FontNo.{FontNo}
use Rattle.env_groups.specs.declared.font.FontSlot.{FontSlot}
use Rattle.env_groups.specs.declared.font.FontFacts.{FontFacts}
use Rattle.env_groups.specs.declared.meaning.Meaning.TheVariants as meanings
use Rattle.env_groups.specs.Macros.{IsMeaning}
use Rattle.env_groups.specs.Environments.{Nest, font_set}
use Rattle.mouth.specs.Reading.{OpenFile, Reading}
use Rattle.mouth.specs.Keeping.{MouthView, FileView, number_of, numbers, file_of, held_in, reading, AreOpen, AreTold}
use Rattle.mouth.proofs.Leaving.{leaves_all, leaves_then}
use Rattle.expander.specs.Holding.{AreFit, Goes}
use Rattle.font_store.specs.declared.fonts.Font.{Font}
use Rattle.known_fonts.specs.Metrics.{facts_in}
use Rattle.known_fonts.specs.Standing.{AreNumbered}
use Rattle.assignments.specs.Beside.{IsBeside}

-- ---- files that are kept

file_kept : (before after : FilesState) (file : FileView) → before.is_open (number_of file) ≡ true → KeepsAll before after → file_of after file ≡ file_of before file
file_kept before after file is_open keeps = rw ((keeps.1 (number_of file)).1 is_open) refl

files_kept : (before after : FilesState) (files : List FileView) → AllOpen (map number_of files) before → KeepsAll before after → map (file_of after) files ≡ map (file_of before) files
files_kept before after [] open_files keeps = refl
files_kept before after (file ∷ files) open_files keeps =
    ap (λ (f : OpenFile). f ∷ map (file_of after) files) (file_kept before after file open_files.0 keeps)
    ∙ ap (λ (fs : List OpenFile). file_of before file ∷ fs) (files_kept before after files open_files.1 keeps)

-- what is read, over files that are seen so
abbrev over : MouthView → OpenFile → List OpenFile → Option (List Held) → Reading
over mouth innermost below held = record { innermost = innermost; below = below; names = mouth.names; units = mouth.units; begun = mouth.begun; conditionals = mouth.conditionals; inside = mouth.inside; coding = mouth.coding; held = held_in held }

pub reading_kept : (mouth : MouthView) (before after : FilesState) → AreOpen mouth before → KeepsAll before after → reading mouth after ≡ reading mouth before
reading_kept mouth before after open_files keeps =
    ap (λ (f : OpenFile). over mouth f (map (file_of after) mouth.below) after.held) (file_kept before after mouth.innermost open_files.0 keeps)
    ∙ ap (λ (fs : List OpenFile). over mouth (file_of before mouth.innermost) fs after.held) (files_kept before after mouth.below open_files.1 keeps)
    ∙ ap (λ (held : Option (List Held)). over mouth (file_of before mouth.innermost) (map (file_of before) mouth.below) held) keeps.0

open_kept : (before after : FilesState) (files : List ℕ) → AllOpen files before → KeepsAll before after → AllOpen files after
open_kept before after [] open_files keeps = tt
open_kept before after (n ∷ files) open_files keeps = ((keeps.1 n).0 ∙ open_files.0, open_kept before after files open_files.1 keeps)

told_kept : (before after : FilesState) (files : List ℕ) → AllOpen files before → AllTold files before → KeepsAll before after → AllTold files after
told_kept before after [] open_files told keeps = tt
told_kept before after (n ∷ files) open_files told keeps = (rw ((keeps.1 n).1 open_files.0) told.0, told_kept before after files open_files.1 told.1 keeps)

all_told : (mouth : MouthView) (before after : FilesState) → AreOpen mouth before → KeepsAll before after → AreTold mouth before → AreTold mouth after
all_told mouth before after open_files keeps told = (rw keeps.0 told.0, told_kept before after (numbers mouth) open_files told.1 keeps)

-- A call that expands goes on where files are kept after it.
pub goes_on : (old mouth : MouthView) (first before after : FilesState) → Goes old first mouth before → KeepsAll before after → Goes old first mouth after
goes_on old mouth first before after goes keeps = record {
  opened = open_kept before after (numbers mouth) goes.opened keeps;
  told = λ told. all_told mouth before after goes.opened keeps (goes.told told);
  others = leaves_then (numbers old) (numbers mouth) (numbers mouth) first before after goes.others (leaves_all (numbers mouth) before after keeps);
  names = goes.names;
}

-- ---- fonts of the environment

facts_length : (fonts : List Font) → length (map facts_in fonts) ≡ length fonts
facts_length [] = refl
facts_length (f ∷ fonts) = ap (λ (k : ℕ). suc k) (facts_length fonts)

as_many : (nest : Nest) (fonts : List Font) → AreNumbered nest fonts → length nest.fonts ≡ length fonts
as_many nest fonts numbered = ap (λ (fs : List FontFacts). length fs) numbered ∙ facts_length fonts

pub font_is_added : (nest : Nest) (fonts : List Font) (number : FontNo) → AreNumbered nest fonts → number.0 < length fonts → IsMeaning (length nest.fonts) (meanings.Font number)
font_is_added nest fonts number numbered there = rw (as_many nest fonts numbered) there

pub numbered_still : (old new : Nest) (fonts : List Font) → IsBeside old new → AreNumbered old fonts → AreNumbered new fonts
numbered_still old new fonts beside numbered = beside.fonts ∙ numbered

pub environments_fit : (names : List Spelling) (old new : Nest) → new.environments ≡ old.environments → AreFit names old → AreFit names new
unfolding AreFit
environments_fit names old new same fit = (fit.0, rw same fit.1)

-- ---- a font that is selected

pub same_beside : (old new : Nest) → new ≡ old → IsBeside old new
same_beside old new same = rw same (record { situation = refl; fonts = refl; groups = refl })

pub selected_beside : (nest : Nest) (slot : FontSlot) (number : FontNo) (is_global : Bool) → IsBeside nest (font_set nest slot number is_global)
selected_beside nest slot number is_global = record { situation = refl; fonts = refl; groups = refl }
