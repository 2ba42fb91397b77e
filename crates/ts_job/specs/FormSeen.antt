-- The form that the code keeps.
use Rattle.ts_job.specs.declared.form.Form.{Form as Kept}
use Rattle.ts_job.specs.Form.{Form}

abbrev pub seen : Kept → Form
seen form = record { name = form.name.items; cells = form.cells.items }
