use Rattle.main_control.proofs.Falls.{Promises, run_turns, turn_lowers}
use Rattle.main_control.proofs.laws.a_run_is_turn_after_turn.Goals as goal

pub returns-clause-turns : goal.returns-clause-turns
returns-clause-turns c w = run_turns (record {
  next = c.readings_leave_less.ensures.next;
  solid = c.readings_leave_less.ensures.solid;
  ready = c.assignments_leave_less.ensures.ready;
  carried = c.assignments_leave_less.ensures.carried;
  ignored = c.assignments_leave_less.ensures.ignored;
  defined = c.font_commands_leave_less.ensures.defined;
  used = c.font_commands_leave_less.ensures.used;
  numbered = c.list_commands_leave_less.ensures.read;
  started = c.list_commands_leave_less.ensures.started;
  closed = c.list_commands_leave_less.ensures.closed;
}) w

pub returns-clause-lowers : goal.returns-clause-lowers
returns-clause-lowers c = turn_lowers (record {
  next = c.readings_leave_less.ensures.next;
  solid = c.readings_leave_less.ensures.solid;
  ready = c.assignments_leave_less.ensures.ready;
  carried = c.assignments_leave_less.ensures.carried;
  ignored = c.assignments_leave_less.ensures.ignored;
  defined = c.font_commands_leave_less.ensures.defined;
  used = c.font_commands_leave_less.ensures.used;
  numbered = c.list_commands_leave_less.ensures.read;
  started = c.list_commands_leave_less.ensures.started;
  closed = c.list_commands_leave_less.ensures.closed;
})
