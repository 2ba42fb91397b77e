-- Laws of what bytes say.
use Rattle.std.specs.Prelude.{◌≡◌, ℕ, ◌^◌, ◌<◌, List, [], ◌∷◌, ◌++◌, length, Ok, ℤ, pos}
use Rattle.std.specs.Int.{w32, bytes_high_first}
use Rattle.std.specs.Int.RustNames.{FitsSigned}
use Rattle.dvi_commands.specs.declared.font.FontDef.{FontDef}
use Rattle.dvi_commands.specs.Commands as c
use Rattle.dvi_commands.specs.Commands.{Command, Postamble, command}
use Rattle.dvi_commands.specs.Spelling.{Spells, four, plain_definition}

-- what was read at the front of bytes is read again whatever follows them
abbrev pub CommandsStay : Type 0
CommandsStay = (x y rest : List ℕ) (cmd : Command) → command x ≡ Ok (cmd, rest)
    → command (x ++ y) ≡ Ok (cmd, rest ++ y)

-- bytes that say commands, and more that say others, say both
abbrev pub SpellingsJoin : Type 0
SpellingsJoin =
    (cs ds : List Command) (x y : List ℕ) → Spells x cs → Spells y ds → Spells (x ++ y) (cs ++ ds)

-- what the bytes of each command say that a writer needs
abbrev pub SaysPush : Type 0
SaysPush = command (141 ∷ []) ≡ Ok (c.push, [])

abbrev pub SaysPop : Type 0
SaysPop = command (142 ∷ []) ≡ Ok (c.pop, [])

abbrev pub SaysEop : Type 0
SaysEop = command (140 ∷ []) ≡ Ok (c.eop, [])

abbrev pub SaysRight : Type 0
SaysRight = (z : ℤ) → FitsSigned w32 z → command (146 ∷ four z) ≡ Ok (c.right z, [])

abbrev pub SaysDown : Type 0
SaysDown = (z : ℤ) → FitsSigned w32 z → command (160 ∷ four z) ≡ Ok (c.down z, [])

abbrev pub SaysSet : Type 0
SaysSet = (code : ℕ) → code < 2 ^ 16 → command (129 ∷ bytes_high_first 2 code) ≡ Ok (c.set code, [])

abbrev pub SaysFontDef : Type 0
SaysFontDef = (f : FontDef) (number : ℕ) → f.number ≡ pos number → number < 256
    → f.check_sum < 2 ^ 32 → f.size < 2 ^ 32 → f.design < 2 ^ 32
    → command (243 ∷ number ∷ (bytes_high_first 4 f.check_sum
    ++ (bytes_high_first 4 f.size ++ (bytes_high_first 4 f.design ++ 0 ∷ length f.name
    ∷ f.name)))) ≡ Ok (c.font_def (plain_definition f), [])

abbrev pub SaysPost : Type 0
SaysPost = (p : Postamble) → FitsSigned w32 p.back → p.num < 2 ^ 32 → p.den < 2 ^ 32
    → p.mag < 2 ^ 32 → p.height < 2 ^ 32 → p.width < 2 ^ 32 → p.stack < 2 ^ 16 → p.pages < 2 ^ 16
    → command (248 ∷ (four p.back ++ (bytes_high_first 4 p.num
    ++ (bytes_high_first 4 p.den ++ (bytes_high_first 4 p.mag
    ++ (bytes_high_first 4 p.height ++ (bytes_high_first 4 p.width
    ++ (bytes_high_first 2 p.stack ++ bytes_high_first 2 p.pages)))))))) ≡ Ok (c.post p, [])

abbrev pub SaysPostPost : Type 0
SaysPostPost = (at : ℤ) (id : ℕ) → FitsSigned w32 at
    → command (249 ∷ (four at ++ id ∷ [])) ≡ Ok (c.post_post at id, [])
