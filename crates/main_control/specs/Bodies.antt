-- What main control keeps of the world: not what is left of the files, nor the boxes that were shipped, nor the entries of open
-- lists.
use Rattle.std.specs.Prelude.{List, refl}
use Rattle.std.specs.Coded.{Coded, code_by, coded×, coded_list}
use Rattle.dvi_commands.specs.declared.font.FontDef.{FontDef}
use Rattle.dvi_commands.specs.contracts.font.FontDef as definitions
use Rattle.env_groups.specs.Environments.{Nest}
use Rattle.env_groups.specs.ModelCodes.{nest_code}
use Rattle.mouth.specs.Keeping.{MouthView}
use Rattle.expander.specs.contracts.gullet.Gullet as gullets
use Rattle.font_store.specs.declared.fonts.Font.{Font}
use Rattle.font_store.specs.contracts.fonts.Fonts as stores
use Rattle.open_lists.specs.Kept.{Kept, kept_code}

pub record Body : Type 0 where
  pub gullet : MouthView
  pub nest : Nest
  pub fonts : List Font
  pub table : List FontDef
  pub lists : Kept

abbrev pub body_code : Coded Body
body_code =
    code_by (MouthView × (Nest × (List Font × (List FontDef × Kept))))
    (coded× gullets.the_row.coded (coded× nest_code (coded× stores.the_row.coded (coded× (coded_list definitions.the_row.coded) kept_code))))
    (λ b. (b.gullet, (b.nest, (b.fonts, (b.table, b.lists)))))
    (λ t. record { gullet = t.0; nest = t.1.0; fonts = t.1.1.0; table = t.1.1.1.0; lists = t.1.1.1.1 })
    (λ _. refl)
