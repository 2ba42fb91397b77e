use Rattle.std.proofs.Common.{refl}
use Rattle.std.specs.Prelude.{map, string_bytes}
use Rattle.source_job.specs.Promise.{boxes_meant}
use Rattle.source_job.proofs.Reporting.{puts_none}
use Rattle.source_job.proofs.job.set.Goals as goal

pub returns-in-Err-clause-pages : goal.returns-in-Err-clause-pages
returns-in-Err-clause-pages g c held told = puts_none (g.S.Sink.held c.args.out.now) _ (boxes_meant held (map string_bytes c.args.words.now.items)) refl
