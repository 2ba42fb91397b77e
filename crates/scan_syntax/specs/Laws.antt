-- Laws of scans: what they find.
use Rattle.std.specs.Prelude.{◌≡◌, Result, Ok}
use Rattle.box_tree.specs.Bounds.{IsDimen}
use Rattle.env_groups.specs.declared.key.ToksKey.{ToksKey}
use Rattle.env_groups.specs.Environments.{Nest, toks_at}
use Rattle.scan_syntax.specs.Bounds.{IsSize}
use Rattle.scan_syntax.specs.declared.want.Want.{Want}
use Rattle.scan_syntax.specs.declared.want.Want.TheVariants as wants
use Rattle.scan_syntax.specs.declared.want.Value.{Value}
use Rattle.scan_syntax.specs.declared.want.Value.TheVariants as values

-- A list of tokens is what an environment holds.
abbrev pub IsHeldIn : Nest → Value → Type 0
IsHeldIn nest (values.Toks list) = (key : ToksKey) × (toks_at nest key ≡ Ok list)
IsHeldIn nest _ = Unit {0}

-- A dimension, and the size of a box, is within the greatest dimension.
abbrev pub IsMeasured : Want → Value → Type 0
IsMeasured wants.Dimen (values.Dimen d) = IsDimen d
IsMeasured wants.BoxSize (values.BoxSize size) = IsSize size
IsMeasured _ _ = Unit {0}
