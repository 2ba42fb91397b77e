-- Why a command is refused: what the faults of the layers below become, and why each comes.
use Rattle.ts_base.specs.Agreement.{Cause, Determined, Counted, Free}
use Rattle.mouth.specs.Reading.{Stop, at_place}
use Rattle.env_groups.specs.declared.fault.EnvFault.{EnvFault}
use Rattle.env_groups.specs.declared.fault.EnvFault.TheVariants as env_faults
use Rattle.expander.specs.declared.gullet_fault.GulletFault.{GulletFault}
use Rattle.expander.specs.declared.gullet_fault.GulletFault.TheVariants as gullet_faults
use Rattle.font_store.specs.declared.loading.LoadFault.{LoadFault}
use Rattle.font_store.specs.declared.loading.LoadFault.TheVariants as load_faults
use Rattle.line_break.specs.declared.fault.ParaFault.{ParaFault}
use Rattle.line_break.specs.declared.fault.ParaFault.TheVariants as para_faults
use Rattle.node_links.specs.declared.fault.ListFault.{ListFault}
use Rattle.node_links.specs.declared.fault.ListFault.TheVariants as list_faults
use Rattle.packaging.specs.declared.fault.PackFault.{PackFault}
use Rattle.packaging.specs.declared.fault.PackFault.TheVariants as pack_faults
use Rattle.shipping.specs.declared.fault.ShipFault.{ShipFault}
use Rattle.shipping.specs.declared.fault.ShipFault.TheVariants as ship_faults
use Rattle.control_faults.specs.declared.kind.FaultKind.TheVariants as kinds
use Rattle.control_faults.specs.declared.turn_fault.TurnFault.{TurnFault}
use Rattle.control_faults.specs.declared.turn_fault.TurnFault.TheVariants as faults

-- why a command is refused, seen from the files: only a failed read is counted there
abbrev pub read_cause : TurnFault → Cause
read_cause (faults.Kind kind) = Determined
read_cause faults.Budget = Determined
read_cause faults.ReadFault = Counted
read_cause faults.SinkFault = Determined
read_cause faults.NoMemory = Free

-- and seen from the shipper
abbrev pub sink_cause : TurnFault → Cause
sink_cause (faults.Kind kind) = Determined
sink_cause faults.Budget = Determined
sink_cause faults.ReadFault = Determined
sink_cause faults.SinkFault = Counted
sink_cause faults.NoMemory = Free

-- the same at its place
abbrev pub turn_stop : {E : Type 0} → (E → TurnFault) → Stop E → Stop TurnFault
turn_stop becomes stop = at_place stop.place (becomes stop.fault)

-- ---- what the faults of the layers below become

abbrev pub of_gullet : GulletFault → TurnFault
of_gullet gullet_faults.Undefined = faults.Kind kinds.Undefined
of_gullet gullet_faults.UseMismatch = faults.Kind kinds.UseMismatch
of_gullet gullet_faults.ArgParagraph = faults.Kind kinds.ArgParagraph
of_gullet gullet_faults.FileEnded = faults.Kind kinds.FileEnded
of_gullet gullet_faults.BadParameter = faults.Kind kinds.BadParameter
of_gullet gullet_faults.ExtraCond = faults.Kind kinds.ExtraCond
of_gullet gullet_faults.CsnameEnd = faults.Kind kinds.CsnameEnd
of_gullet gullet_faults.NoBrace = faults.Kind kinds.NoBrace
of_gullet gullet_faults.NoName = faults.Kind kinds.NoName
of_gullet gullet_faults.FileMissing = faults.Kind kinds.FileMissing
of_gullet gullet_faults.InputsFull = faults.Kind kinds.InputsFull
of_gullet gullet_faults.TokensFull = faults.Kind kinds.TokensFull
of_gullet gullet_faults.NoEnd = faults.Kind kinds.NoEnd
of_gullet gullet_faults.DepthFull = faults.Kind kinds.DepthFull
of_gullet gullet_faults.Budget = faults.Budget
of_gullet gullet_faults.BadChar = faults.Kind kinds.BadChar
of_gullet gullet_faults.NamesFull = faults.Kind kinds.NamesFull
of_gullet gullet_faults.TooManyLines = faults.Kind kinds.TooManyLines
of_gullet gullet_faults.LineTooLong = faults.Kind kinds.LineTooLong
of_gullet (gullet_faults.BadByte place) = faults.Kind (kinds.BadByte place)
of_gullet gullet_faults.NoNumber = faults.Kind kinds.NoNumber
of_gullet gullet_faults.NumberRange = faults.Kind kinds.NumberRange
of_gullet gullet_faults.NoUnit = faults.Kind kinds.NoUnit
of_gullet gullet_faults.DimenRange = faults.Kind kinds.DimenRange
of_gullet gullet_faults.RegisterRange = faults.Kind kinds.RegisterRange
of_gullet gullet_faults.CodeRange = faults.Kind kinds.CodeRange
of_gullet gullet_faults.ReadFault = faults.ReadFault
of_gullet gullet_faults.NoMemory = faults.NoMemory

abbrev pub of_env : EnvFault → TurnFault
of_env env_faults.RegisterRange = faults.Kind kinds.RegisterRange
of_env env_faults.CodeRange = faults.Kind kinds.CodeRange
of_env env_faults.FontsFull = faults.Kind kinds.FontsFull
of_env env_faults.GroupsFull = faults.Kind kinds.GroupsFull
of_env env_faults.GroupEnd = faults.Kind kinds.GroupEnd
of_env env_faults.NoMemory = faults.NoMemory

abbrev pub of_load : LoadFault → TurnFault
of_load load_faults.Missing = faults.Kind kinds.FileMissing
of_load (load_faults.Bad bad at) = faults.Kind (kinds.FontBad bad at)
of_load load_faults.ReadFault = faults.ReadFault
of_load load_faults.NoMemory = faults.NoMemory

abbrev pub of_list : ListFault → TurnFault
of_list list_faults.ListFull = faults.Kind kinds.ListFull
of_list list_faults.NoMemory = faults.NoMemory

abbrev pub of_pack : PackFault → TurnFault
of_pack pack_faults.DimenRange = faults.Kind kinds.DimenRange
of_pack (pack_faults.BoxTooLarge weight) = faults.Kind kinds.BoxTooLarge
of_pack (pack_faults.BoxTooDeep depth) = faults.Kind kinds.BoxTooDeep
of_pack pack_faults.NoMemory = faults.NoMemory

abbrev pub of_para : ParaFault → TurnFault
of_para para_faults.InfiniteShrink = faults.Kind kinds.InfiniteShrink
of_para para_faults.NoMemory = faults.NoMemory

abbrev pub of_ship : ShipFault → TurnFault
of_ship ship_faults.PagesFull = faults.Kind kinds.PagesFull
of_ship ship_faults.JobTooLarge = faults.Kind kinds.JobTooLarge
of_ship ship_faults.PlaceRange = faults.Kind kinds.PlaceRange
of_ship ship_faults.SinkFault = faults.SinkFault
of_ship ship_faults.NoMemory = faults.NoMemory
