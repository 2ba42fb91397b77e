-- What a builder stands for.
use Rattle.std.specs.Prelude.{◌≡◌, List, ◌++◌, ◌≤◌, length, Bool, true, false, nat_lt, Result, Ok, Err}
use Rattle.node_links.specs.Lists.{most_items}
use Rattle.node_links.specs.declared.fault.ListFault.{ListFault}
use Rattle.node_links.specs.declared.fault.ListFault.TheVariants.{ListFull, NoMemory}
use Rattle.jlist_builder.specs.declared.builder.HBuilder.{HBuilder}
use Rattle.jlist_builder.specs.Entries.{Entry, AreEntries}
use Rattle.jlist_builder.specs.Pieces as pieces
use Rattle.jlist_builder.specs.Pieces.{joined}
use Rattle.jlist_builder.specs.Gaps as gaps
use Rattle.jlist_builder.specs.Gaps.{metric_list, letter_items}

-- A builder's list is the metric list of the entries but for a last letter that may still join,
-- which it holds. Beside it the builder knows what the next character looks at.
pub record StandsFor (b : HBuilder) (e : List Entry) : Type 0 where
  pub list : b.list.items ++ letter_items b.held ≡ metric_list e
  pub neighbour : b.neighbour ≡ gaps.neighbour (joined e)
  pub run : b.run ≡ pieces.run (joined e)
  pub inhibited : b.is_inhibited ≡ gaps.is_inhibited (joined e)
  pub held : b.held ≡ gaps.last_letter (joined e)
  pub few : length (metric_list e) ≤ most_items
  pub entries : AreEntries e

-- Has the metric list of these entries too many items?
abbrev pub is_full : List Entry → Bool
is_full e = nat_lt most_items (length (metric_list e))

abbrev pub is_list_full : {X : Type 0} → Result X ListFault → Bool
is_list_full (Ok done) = false
is_list_full (Err ListFull) = true
is_list_full (Err NoMemory) = false

-- Was a European character put?
abbrev pub is_taken : Result Bool ListFault → Bool
is_taken (Ok there) = there
is_taken (Err fault) = false

-- Does the font lack it?
abbrev pub is_lacking : Result Bool ListFault → Bool
is_lacking (Ok true) = false
is_lacking (Ok false) = true
is_lacking (Err fault) = false

-- a fact for each of a European character's answers: it was put, or the font lacks it, or the
-- list refused it
abbrev pub MatchTaken : Result Bool ListFault → Type 0 → Type 0 → Type 0 → Type 0
MatchTaken (Ok true) taken lacking refused = taken
MatchTaken (Ok false) taken lacking refused = lacking
MatchTaken (Err fault) taken lacking refused = refused
