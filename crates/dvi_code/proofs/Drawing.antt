-- How commands draw, one after the other.
use Rattle.std.proofs.Common.{◌≡◌, ℕ, ◌+◌, List, [], ◌∷◌, ◌++◌, Ok, refl}
use Rattle.dvi_commands.specs.declared.font.FontDef.{FontDef}
use Rattle.dvi_commands.specs.Commands.{Command}
use Rattle.dvi_code.specs.Pages.{Widths, Pen, all_drawn, drawn, counted}
use Rattle.dvi_code.specs.Reading.{Draws}
use Rattle.dvi_code.proofs.Steps.{bound}

pub Draws-nil : (widths : Widths) (fonts : List FontDef) (p : Pen) → Draws widths fonts p [] p
unfolding all_drawn
Draws-nil widths fonts p = record { on = λ before. refl }

pub Draws-cons : (widths : Widths) (fonts : List FontDef) (p q r : Pen) (cmd : Command) (cs : List Command) → drawn widths fonts p cmd ≡ Ok q → Draws widths fonts q cs r → Draws widths fonts p (cmd ∷ cs) r
unfolding all_drawn
Draws-cons widths fonts p q r cmd cs e d = record { on = λ before. rw e (d.on (before + 1)) }

drawn_append : (widths : Widths) (fonts : List FontDef) (before : ℕ) (cs ds : List Command) (p q r : Pen) → all_drawn widths fonts before p cs ≡ Ok q → ((k : ℕ) → all_drawn widths fonts k q ds ≡ Ok r) → all_drawn widths fonts before p (cs ++ ds) ≡ Ok r
unfolding all_drawn
drawn_append widths fonts before [] ds p q r e f = let same : p ≡ q = cc in rw same (f before)
drawn_append widths fonts before (cmd ∷ cs) ds p q r e f =
    let m = bound (counted before (drawn widths fonts p cmd)) (λ x. all_drawn widths fonts (before + 1) x cs) q e in
    rw m.1 (drawn_append widths fonts (before + 1) cs ds m.0 q r m.2 f)

pub Draws-append : (widths : Widths) (fonts : List FontDef) (p q r : Pen) (cs ds : List Command) → Draws widths fonts p cs q → Draws widths fonts q ds r → Draws widths fonts p (cs ++ ds) r
Draws-append widths fonts p q r cs ds a b = record { on = λ before. drawn_append widths fonts before cs ds p q r (a.on before) b.on }
