-- What a call makes of open lists that are kept without entries, or why it is refused, with the place.
use Rattle.std.specs.Prelude.{◌≡◌, List, [], Result, Ok, Err}
use Rattle.ts_base.specs.Agreement.{AgreesFault}
use Rattle.mouth.specs.declared.place.Place.{Place}
use Rattle.mouth.specs.Reading.{at_place}
use Rattle.font_store.specs.declared.fonts.Font.{Font}
use Rattle.jlist_builder.specs.Entries.{Entry}
use Rattle.expander.specs.Worlds.{World}
use Rattle.open_lists.specs.declared.plan.EndedBox.{EndedBox}
use Rattle.open_lists.specs.Glyphs.{AreOf}
use Rattle.open_lists.specs.Lists.{OpenLists}
use Rattle.open_lists.specs.Kept.{Kept}
use Rattle.open_lists.specs.Standing.{lists_of, StandFor, entries_in, entries_in_all}
use Rattle.control_faults.specs.declared.turn_fault.TurnFault.{TurnFault}
use Rattle.control_faults.specs.TurnFaults.{read_cause}
use Rattle.assignments.specs.Worlds.{Outcome}

-- ---- the lists alone

-- What is kept then stands for the lists that are given; or these are refused so, at this place.
abbrev pub PutsAt : {X : Type 0} → Place → Kept → Result X TurnFault → Outcome OpenLists → Type 0
PutsAt place k (Ok x) given = (given ≡ Ok (lists_of k (entries_in given))) × StandFor k (entries_in given)
PutsAt place k (Err e) given = AgreesFault (read_cause e) (at_place place e) given

-- ---- with what is read and the environments

abbrev pub entries_begun : Outcome (OpenLists × World) → List (List Entry)
entries_begun (Ok r) = entries_in_all r.0.inner
entries_begun (Err stop) = []

-- the same of lists with this world
abbrev pub BeginsAt : {X : Type 0} → Place → Kept → World → Result X TurnFault → Outcome (OpenLists × World) → Type 0
BeginsAt place k w (Ok x) given = (given ≡ Ok (lists_of k (entries_begun given), w)) × StandFor k (entries_begun given)
BeginsAt place k w (Err e) given = AgreesFault (read_cause e) (at_place place e) given

abbrev pub entries_ended : Outcome (EndedBox × (OpenLists × World)) → List (List Entry)
entries_ended (Ok r) = entries_in_all r.1.0.inner
entries_ended (Err stop) = []

-- and with the box that is answered
abbrev pub EndsAt : Place → Kept → World → Result EndedBox TurnFault → Outcome (EndedBox × (OpenLists × World)) → Type 0
EndsAt place k w (Ok ended) given = (given ≡ Ok (ended, (lists_of k (entries_ended given), w))) × StandFor k (entries_ended given)
EndsAt place k w (Err e) given = AgreesFault (read_cause e) (at_place place e) given

-- ---- the fonts of the entries

-- It stands for lists with some entries, each of which is one of the fonts.
pub record AreKeptOf (fonts : List Font) (k : Kept) : Type 0 where
  pub entries : List (List Entry)
  pub stands : StandFor k entries
  pub are : AreOf fonts (lists_of k entries)
