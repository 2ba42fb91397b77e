-- The laws, by the names by which proofs of those who write files cite them (src/laws.rt).
use Rattle.dvi_commands.specs.Laws.{CommandsStay, SpellingsJoin, SaysPush, SaysPop, SaysEop, SaysRight, SaysDown, SaysSet, SaysFontDef, SaysPost, SaysPostPost}
use Rattle.dvi_commands.proofs.Stable.{Stable-command}
use Rattle.dvi_commands.proofs.Saying as saying
use Rattle.dvi_commands.proofs.Saying.{Spells-append}

pub commands_stay : CommandsStay
commands_stay = λ x y rest cmd e. Stable-command.again x y cmd rest e

pub spellings_join : SpellingsJoin
spellings_join = Spells-append

pub says_push : SaysPush
says_push = saying.says_push

pub says_pop : SaysPop
says_pop = saying.says_pop

pub says_eop : SaysEop
says_eop = saying.says_eop

pub says_right : SaysRight
says_right = saying.says_right

pub says_down : SaysDown
says_down = saying.says_down

pub says_set : SaysSet
says_set = saying.says_set

pub says_font_def : SaysFontDef
says_font_def = saying.says_font_def

pub says_post : SaysPost
says_post = saying.says_post

pub says_post_post : SaysPostPost
says_post_post = saying.says_post_post
