-- What is kept of open lists: of each its direction, and its contents without entries; the innermost first.
use Rattle.std.specs.Prelude.{List, refl}
use Rattle.std.specs.Coded.{Coded, code_by, coded×, coded_list}
use Rattle.ts_geometry.specs.declared.direction.Dir.{Dir}
use Rattle.ts_geometry.specs.contracts.direction.Dir as dirs
use Rattle.open_lists.specs.declared.contents.KeptContents.{KeptContents}
use Rattle.open_lists.specs.contracts.contents.KeptContents as contents

pub record KeptList : Type 0 where
  pub dir : Dir
  pub contents : KeptContents

pub record Kept : Type 0 where
  pub main : Dir
  pub inner : List KeptList

abbrev pub list_code : Coded KeptList
list_code =
    code_by (Dir × KeptContents) (coded× dirs.the_row.coded contents.the_row.coded)
    (λ l. (l.dir, l.contents))
    (λ t. record { dir = t.0; contents = t.1 })
    (λ _. refl)

abbrev pub kept_code : Coded Kept
kept_code =
    code_by (Dir × List KeptList) (coded× dirs.the_row.coded (coded_list list_code))
    (λ k. (k.main, k.inner))
    (λ t. record { main = t.0; inner = t.1 })
    (λ _. refl)
