-- Boxes that are shipped, each with its counts and fonts, and when one is refused.
use Rattle.std.specs.Prelude.{◌≡◌, ℕ, List, [], ◌∷◌, ◌++◌, length, sum_by, Result, Ok}
use Rattle.ts_base.specs.Agreement.{◌>>=◌, with_fault}
use Rattle.dvi_commands.specs.declared.font.FontDef.{FontDef}
use Rattle.box_tree.specs.Weights.{weight}
use Rattle.dvi_writer.specs.Reading.{Asked}
use Rattle.dvi_writer.specs.Standing.{permitted_after}
use Rattle.shipping.specs.declared.fault.ShipFault.{ShipFault}
use Rattle.shipping.specs.Faults.{of_writer}

-- The whole begins with these.
abbrev pub BeginsWith : {A : Type 0} → List A → List A → Type 0
BeginsWith {A} whole first = (more : List A) × (whole ≡ first ++ more)

-- the weight of them all
abbrev pub total_weight : List Asked → ℕ
total_weight boxes = sum_by (λ a. weight a.node) boxes

-- the fonts of the last of them
abbrev pub last_table : List Asked → List FontDef
last_table [] = []
last_table (a ∷ []) = a.fonts
last_table (a ∷ (b ∷ boxes)) = last_table (b ∷ boxes)

-- the boxes with one more at the end, or the first limit that it would pass
abbrev pub shipped : List Asked → Asked → Result (List Asked) ShipFault
shipped boxes a =
    with_fault of_writer (permitted_after (length boxes) (total_weight boxes) a.node)
    >>= λ _. Ok (boxes ++ a ∷ [])
