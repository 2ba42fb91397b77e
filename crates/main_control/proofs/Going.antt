-- What stays true between commands.
use Rattle.std.proofs.Common.{◌≡◌, ◌∙◌, List, [], ◌∷◌, ◌++◌, OnOk, Result, Ok, Err, refl, sym, ap, map}
use Rattle.mouth.specs.Keeping.{IsReadable}
use Rattle.expander.specs.Holding.{AreFit}
use Rattle.env_groups.specs.Environments.{Nest, start}
use Rattle.jlist_builder.specs.Entries.{Entry}
use Rattle.font_store.specs.declared.fonts.Font.{Font}
use Rattle.font_store.specs.Store.{BeginWith}
use Rattle.open_lists.specs.Kept.{Kept, KeptList}
use Rattle.open_lists.specs.Lists.{OpenLists, marked, start as no_lists}
use Rattle.open_lists.specs.Standing.{lists_of, inner_of, StandFor, entries_in_all, kept_situation, IsNow}
use Rattle.open_lists.specs.Glyphs.{AreOf, IsEntryOf}
use Rattle.shipping.specs.Boxes.{BeginsWith, last_table}
use Rattle.dvi_commands.specs.declared.font.FontDef.{FontDef}
use Rattle.dvi_writer.specs.Reading.{Asked}
use Rattle.control_faults.specs.declared.turn_fault.TurnFault.{TurnFault}
use Rattle.font_store.specs.Measures.{AreWhole}
use Rattle.known_fonts.specs.Standing.{AreNumbered, AreDefined, AreDefinable}
use Rattle.known_fonts.specs.Metrics.{facts_in}
use Rattle.known_fonts.specs.Tables.{definitions}
use Rattle.list_commands.specs.Standing.{AreKeptOf}
use Rattle.main_control.specs.Bodies.{Body}
use Rattle.main_control.specs.Standing.{IsGoing, IsApart, KeepsFonts, Ships}
use Rattle.main_control.proofs.Growth.{begins_same, begins_then}

-- What is read and the environments changed, but neither fonts nor lists.
pub apart_going : (old new : Body) → IsGoing old → IsReadable new.gullet → AreFit new.gullet.names new.nest → new.nest.situation ≡ old.nest.situation → new.nest.fonts ≡ old.nest.fonts → IsApart old new → IsGoing new
apart_going old new was readable fit situation fonts apart = record {
  readable = readable;
  fit = fit;
  situation = situation ∙ was.situation ∙ ap kept_situation (sym apart.lists);
  numbered = fonts ∙ was.numbered ∙ ap (λ (l : List Font). map facts_in l) (sym apart.fonts);
  defined = apart.table ∙ was.defined ∙ ap definitions (sym apart.fonts);
  definable = rw apart.fonts was.definable;
  whole = rw apart.fonts was.whole;
  listed = rw (apart.fonts, apart.lists) was.listed;
}

-- The open lists changed alone, with the situation as it was.
pub lists_going : (old new : Body) → IsGoing old → new.gullet ≡ old.gullet → new.nest ≡ old.nest → KeepsFonts old new → kept_situation new.lists ≡ kept_situation old.lists → AreKeptOf old.fonts new.lists → IsGoing new
lists_going old new was gullet nest kept situation listed = record {
  readable = rw gullet was.readable;
  fit = rw (gullet, nest) was.fit;
  situation = rw nest (was.situation ∙ sym situation);
  numbered = rw (nest, kept.fonts) was.numbered;
  defined = kept.table ∙ was.defined ∙ ap definitions (sym kept.fonts);
  definable = rw kept.fonts was.definable;
  whole = rw kept.fonts was.whole;
  listed = rw kept.fonts listed;
}

-- ---- glyphs of open lists

-- what a law says of a cut and an inhibit
abbrev pub StayMarked : Type 0
StayMarked = (fonts : List Font) (x : Entry) (lists : OpenLists) → AreOf fonts lists → IsEntryOf fonts x → AreOf fonts (marked x lists)

pub kept_marked : (x : Entry) (fonts : List Font) (old new : Kept) → StayMarked → IsEntryOf fonts x → AreKeptOf fonts old → ((entries : List (List Entry)) → StandFor old entries → IsNow new (marked x (lists_of old entries))) → AreKeptOf fonts new
kept_marked x fonts old new stays is was goes =
    let now = goes was.entries was.stands in
    record {
      entries = entries_in_all (marked x (lists_of old was.entries)).inner;
      stands = now.stands;
      are = rw (← now.are) (stays fonts x (lists_of old was.entries) was.are is);
    }

-- what a law says of fonts that grew
abbrev pub StayGrown : Type 0
StayGrown = (old new : List Font) (lists : OpenLists) → AreOf old lists → BeginWith new old → AreOf new lists

pub kept_grown : (old new : List Font) (k : Kept) → StayGrown → AreKeptOf old k → BeginWith new old → AreKeptOf new k
kept_grown old new k stays was grown = record {
  entries = was.entries;
  stands = was.stands;
  are = stays old new (lists_of k was.entries) was.are grown;
}

-- ---- boxes for which a shipper stands

pub ships_on : (stands : List Asked → Type 0) (old new : List FontDef) → Ships stands old → BeginsWith new old → Ships stands new
ships_on stands old new was grown = (was.0, was.1, begins_then (last_table was.0) old new was.2 grown)

-- ---- commands

-- what a law says, a cut and an inhibit in code keep
pub marked_going : (x : Entry) (old new : Body) → StayMarked → IsEntryOf old.fonts x → IsGoing old → new.gullet ≡ old.gullet → new.nest ≡ old.nest → KeepsFonts old new → kept_situation new.lists ≡ kept_situation old.lists
    → ((entries : List (List Entry)) → StandFor old.lists entries → IsNow new.lists (marked x (lists_of old.lists entries))) → IsGoing new
marked_going x old new stays is was gullet nest kept situation goes =
    lists_going old new was gullet nest kept situation (kept_marked x old.fonts old.lists new.lists stays is was.listed goes)

pub table_kept : (old new : Body) → KeepsFonts old new → BeginsWith new.table old.table
table_kept old new kept = rw kept.table (begins_same old.table)

-- A font was loaded, or it was refused.
pub loaded_going : {X : Type 0} (r : Result X TurnFault) (old new : Body) → StayGrown → IsGoing old → OnOk r (IsReadable new.gullet) → AreFit new.gullet.names new.nest → new.nest.situation ≡ old.nest.situation
    → OnOk r (AreNumbered new.nest new.fonts) → OnOk r (AreDefined new.table new.fonts) → (AreDefinable old.fonts → AreDefinable new.fonts) → (AreWhole old.fonts → AreWhole new.fonts) → BeginsWith new.fonts old.fonts → new.lists ≡ old.lists
    → OnOk r (IsGoing new)
loaded_going (Ok x) old new stays was readable fit situation numbered defined definable whole grown lists = record {
  readable = readable;
  fit = fit;
  situation = situation ∙ was.situation ∙ ap kept_situation (sym lists);
  numbered = numbered;
  defined = defined;
  definable = definable was.definable;
  whole = whole was.whole;
  listed = rw lists (kept_grown old.fonts new.fonts old.lists stays was.listed grown);
}
loaded_going (Err e) old new stays was readable fit situation numbered defined definable whole grown lists = tt

-- ---- the start

none_open : (ks : List KeptList) → inner_of ks [] ≡ [] → ks ≡ []
none_open [] is = refl
none_open (k ∷ ks) is = let never : ⊥ = cc in absurd never

pub start_stands : (k : Kept) → lists_of k [] ≡ no_lists → StandFor k []
start_stands k is =
    let none = none_open k.inner (ap (λ (l : OpenLists). l.inner) is) in
    rw none tt

pub start_situated : (k : Kept) → lists_of k [] ≡ no_lists → kept_situation k ≡ start.situation
start_situated k is =
    let none = none_open k.inner (ap (λ (l : OpenLists). l.inner) is) in
    let main = ap (λ (l : OpenLists). l.main) is in
    rw (none, main) refl

pub start_listed : (k : Kept) → AreOf [] no_lists → lists_of k [] ≡ no_lists → AreKeptOf [] k
start_listed k are is = record { entries = []; stands = start_stands k is; are = rw is are }

pub ships_first : (stands : List Asked → Type 0) (table : List FontDef) → stands [] → Ships stands table
ships_first stands table none = ([], none, (table, refl))

none_defined : AreDefined [] []
unfolding definitions
none_defined = refl

-- what is true at the start
pub start_going : (b : Body) → IsReadable b.gullet → AreFit b.gullet.names b.nest → b.nest ≡ start → b.fonts ≡ [] → b.table ≡ [] → lists_of b.lists [] ≡ no_lists → AreNumbered start [] → AreDefinable [] → AreWhole [] → AreOf [] no_lists → IsGoing b
start_going b readable fit nest fonts table lists numbered definable whole are = record {
  readable = readable;
  fit = fit;
  situation = rw nest (sym (start_situated b.lists lists));
  numbered = rw (nest, fonts) numbered;
  defined = rw (table, fonts) none_defined;
  definable = rw fonts definable;
  whole = rw fonts whole;
  listed = rw fonts (start_listed b.lists are lists);
}
