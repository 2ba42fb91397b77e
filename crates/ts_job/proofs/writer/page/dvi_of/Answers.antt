use Rattle.std.proofs.Common.{arith, length, ap, ◌∙◌}
use Rattle.dvi_code.specs.Pages.{file_pages}
use Rattle.ts_job.proofs.Puts.{wrote_front, wrote_file}
use Rattle.ts_job.proofs.Body.{DviLaws}
use Rattle.ts_job.proofs.Read.{file_read, short_name, length-front}
use Rattle.ts_job.proofs.writer.page.dvi_of.Goals as goal

pub put_end-requires : goal.put_end-requires
put_end-requires c =
    let front = wrote_front c.args.font.now c.args.glyphs.now _ _ _ c.new-out.ensures.items c.in_ok-put_preamble.ensures c.in_ok-put_page.ensures.bytes in
    omega (arith, ap length front, length-front c.args.font.now c.args.glyphs.now, short_name c.args.font.now c.requires.sound, c.requires.few)

pub returns-clause-bytes : goal.returns-clause-bytes
returns-clause-bytes c =
    let front = wrote_front c.args.font.now c.args.glyphs.now _ _ _ c.new-out.ensures.items c.in_ok-put_preamble.ensures c.in_ok-put_page.ensures.bytes in
    wrote_file c.args.font.now c.args.glyphs.now c.args.high c.args.wide _ _ front c.in_ok-put_end.ensures

pub returns-clause-pages : goal.returns-clause-pages
returns-clause-pages c = λ widths has.
    let says = c.bytes_say_commands.ensures in
    let laws : DviLaws = record {
      join = c.spellings_join.ensures;
      push = says.push;
      pop = says.pop;
      eop = says.eop;
      right = says.right;
      down = says.down;
      set = says.set;
      font_def = says.font_def;
      post = says.post;
      post_post = says.post_post;
      lead = c.commands_lead.ensures;
      lead_on = c.bytes_lead_on.ensures;
      draw_on = c.commands_draw_on.ensures;
      bodies = c.bodies_lead_on.ensures.join;
      body = c.bodies_lead_on.ensures.lead;
      last = c.the_last_is_placed.ensures;
      none = c.commands_draw.ensures.none;
      one = c.commands_draw.ensures.one;
    } in
    let front = wrote_front c.args.font.now c.args.glyphs.now _ _ _ c.new-out.ensures.items c.in_ok-put_preamble.ensures c.in_ok-put_page.ensures.bytes in
    let file = wrote_file c.args.font.now c.args.glyphs.now c.args.high c.args.wide _ _ front c.in_ok-put_end.ensures in
    ap (file_pages widths) file ∙ file_read laws widths c.args.font.now c.args.glyphs.now c.args.high c.args.wide c.requires.number c.requires.sound c.in_ok-put_page.ensures.numbers c.requires.few (omega (arith, c.ranges.high.fits)) (omega (arith, c.ranges.wide.fits)) c.requires.fit has
