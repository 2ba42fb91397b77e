use Rattle.std.proofs.Common.{◌≡◌, ◌++◌, take}
use Rattle.std.specs.List.{flat_map}
use Rattle.ts_job.specs.Written.{glyph_bytes}
use Rattle.ts_job.proofs.writer.page.put_glyphs.Given as goal

abbrev pub invariant-loop-glyph : goal.invariant-loop-glyph
invariant-loop-glyph l = l.out.items ≡ l.fn.out.items ++ flat_map glyph_bytes (take l.glyph-index l.glyphs)
