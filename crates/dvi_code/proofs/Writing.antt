-- The laws, by the names by which proofs of those who write files cite them (src/laws.rt).
use Rattle.dvi_code.specs.Laws.{WholePagesAreFirst, SheetsGrow, CommandsLead, BytesLeadOn, CommandsDrawOn, DefinitionsStay, BodiesJoin, BodiesLead, LastPlaced, NothingDrawn, OneDrawn, ShortNamesSound}
use Rattle.dvi_code.proofs.Leading.{all_inside-append, Leads-one, Leads-then, Leads-body}
use Rattle.dvi_code.proofs.Leading as leading
use Rattle.dvi_code.proofs.Sound.{sound-short}
use Rattle.dvi_code.proofs.Drawing.{Draws-nil, Draws-cons, Draws-append}
use Rattle.dvi_code.proofs.Straight.{font_stays}
use Rattle.dvi_code.proofs.Whole.{whole_pages_first, whole_grows}

pub whole_pages_are_first : WholePagesAreFirst
whole_pages_are_first = whole_pages_first

pub sheets_grow : SheetsGrow
sheets_grow x y = let grows = whole_grows x y in (grows.more, grows.is)

pub commands_lead : CommandsLead
commands_lead = Leads-one

pub bytes_lead_on : BytesLeadOn
bytes_lead_on = Leads-then

pub commands_draw_on : CommandsDrawOn
commands_draw_on = Draws-append

pub definitions_stay : DefinitionsStay
definitions_stay = font_stays

pub bodies_join : BodiesJoin
bodies_join = all_inside-append

pub bodies_lead : BodiesLead
bodies_lead = Leads-body

pub last_placed : LastPlaced
last_placed = leading.last_placed

pub nothing_drawn : NothingDrawn
nothing_drawn = Draws-nil

pub one_drawn : OneDrawn
one_drawn = Draws-cons

pub short_names_sound : ShortNamesSound
short_names_sound = sound-short
