use Rattle.std.proofs.Common.{◌≡◌, ◌+◌, ◌-◌, length, sym, ◌∙◌, arith}
use Rattle.std.proofs.lemmas.Option.{slice_get_within}
use Rattle.kanjiskip_adjust.proofs.Passing.{linked_plain, linked_skip, linked_here, linked_next, linked_kept, has_before}
use Rattle.kanjiskip_adjust.proofs.Keeping.{length-inserted}
use Rattle.kanjiskip_adjust.proofs.spacing.pass.Goals as goal

pub returns-in-None-clause-same : goal.returns-in-None-clause-same
returns-in-None-clause-same g c = λ widow.
    linked_plain (g.E.EndCodes.codes c.args.codes.now) widow c.args.walk.now c.go_past-in-None.new.self c.args.list.now.items c.args.place c.look_of-look.result c.item.result.now
    (c.item.ensures c.args.place c.requires.here) c.look_of-look.ensures (sym c.in-None.ensures) c.go_past-in-None.ensures

pub returns-in-Some-clause-same : goal.returns-in-Some-clause-same
returns-in-Some-clause-same g c = λ widow.
    let some = sym c.in-Some.ensures ∙ sym c.glue_of-glue.ensures in
    let pos = has_before (g.E.EndCodes.codes c.args.codes.now) c.args.walk.now c.look_of-look.result c.glue_of-glue.result c.args.place c.requires.kept.left some in
    let back : c.args.place - 1 + 1 ≡ c.args.place = omega (arith, pos) in
    let within = slice_get_within c.args.list.now.items c.args.place c.item.result.now (c.item.ensures c.args.place c.requires.here) in
    let items = rw back at (c.insert_after-marks.ensures.items (c.args.place - 1) (c.requires.kept.before pos)) in
    let more : length c.insert_after-marks.new.self.items ≡ length c.args.list.now.items + 1 = rw items (length-inserted c.args.list.now.items c.args.place _ (omega (arith, within))) in
    let two : c.args.place + (c.len.result - c.len-len.result) + 1 ≡ c.args.place + 1 + 1 = omega (arith, more, c.len.ensures, c.len-len.ensures) in
    linked_skip (g.E.EndCodes.codes c.args.codes.now) widow c.args.walk.now c.go_past.new.self c.args.list.now.items c.insert_after-marks.new.self.items c.args.place
    (c.args.place + (c.len.result - c.len-len.result) + 1) c.look_of-look.result c.item.result.now c.glue_of-glue.result
    (c.item.ensures c.args.place c.requires.here) c.look_of-look.ensures some c.go_past.ensures two items

pub returns-in-Some-clause-kept : goal.returns-in-Some-clause-kept
returns-in-Some-clause-kept g c =
    let some = sym c.in-Some.ensures ∙ sym c.glue_of-glue.ensures in
    let pos = has_before (g.E.EndCodes.codes c.args.codes.now) c.args.walk.now c.look_of-look.result c.glue_of-glue.result c.args.place c.requires.kept.left some in
    let back : c.args.place - 1 + 1 ≡ c.args.place = omega (arith, pos) in
    let within = slice_get_within c.args.list.now.items c.args.place c.item.result.now (c.item.ensures c.args.place c.requires.here) in
    let items = rw back at (c.insert_after-marks.ensures.items (c.args.place - 1) (c.requires.kept.before pos)) in
    let more : length c.insert_after-marks.new.self.items ≡ length c.args.list.now.items + 1 = rw items (length-inserted c.args.list.now.items c.args.place _ (omega (arith, within))) in
    let two : c.args.place + (c.len.result - c.len-len.result) + 1 ≡ c.args.place + 1 + 1 = omega (arith, more, c.len.ensures, c.len-len.ensures) in
    let numbers = rw back at (c.insert_after-marks.ensures.numbers (c.args.place - 1) (c.requires.kept.before pos)) in
    linked_kept c.args.list.now.numbers c.insert_after-marks.new.self.numbers c.args.place (c.args.place + (c.len.result - c.len-len.result) + 1) c.args.number
    c.insert_after-marks.result c.requires.here numbers two c.args.walk.now c.go_past.new.self c.args.marks.now c.go_past-in-Some.new.self c.look_of-look.result
    c.requires.kept c.go_past.ensures c.go_past-in-Some.ensures

pub returns-in-Some-clause-here : goal.returns-in-Some-clause-here
returns-in-Some-clause-here g c =
    let some = sym c.in-Some.ensures ∙ sym c.glue_of-glue.ensures in
    let pos = has_before (g.E.EndCodes.codes c.args.codes.now) c.args.walk.now c.look_of-look.result c.glue_of-glue.result c.args.place c.requires.kept.left some in
    let back : c.args.place - 1 + 1 ≡ c.args.place = omega (arith, pos) in
    let within = slice_get_within c.args.list.now.items c.args.place c.item.result.now (c.item.ensures c.args.place c.requires.here) in
    let items = rw back at (c.insert_after-marks.ensures.items (c.args.place - 1) (c.requires.kept.before pos)) in
    let more : length c.insert_after-marks.new.self.items ≡ length c.args.list.now.items + 1 = rw items (length-inserted c.args.list.now.items c.args.place _ (omega (arith, within))) in
    let two : c.args.place + (c.len.result - c.len-len.result) + 1 ≡ c.args.place + 1 + 1 = omega (arith, more, c.len.ensures, c.len-len.ensures) in
    let numbers = rw back at (c.insert_after-marks.ensures.numbers (c.args.place - 1) (c.requires.kept.before pos)) in
    linked_here c.args.list.now.numbers c.insert_after-marks.new.self.numbers c.args.place (c.args.place + (c.len.result - c.len-len.result) + 1) c.args.number
    c.insert_after-marks.result c.requires.here numbers two

pub returns-in-Some-clause-next : goal.returns-in-Some-clause-next
returns-in-Some-clause-next g c =
    let some = sym c.in-Some.ensures ∙ sym c.glue_of-glue.ensures in
    let pos = has_before (g.E.EndCodes.codes c.args.codes.now) c.args.walk.now c.look_of-look.result c.glue_of-glue.result c.args.place c.requires.kept.left some in
    let back : c.args.place - 1 + 1 ≡ c.args.place = omega (arith, pos) in
    let within = slice_get_within c.args.list.now.items c.args.place c.item.result.now (c.item.ensures c.args.place c.requires.here) in
    let items = rw back at (c.insert_after-marks.ensures.items (c.args.place - 1) (c.requires.kept.before pos)) in
    let more : length c.insert_after-marks.new.self.items ≡ length c.args.list.now.items + 1 = rw items (length-inserted c.args.list.now.items c.args.place _ (omega (arith, within))) in
    let two : c.args.place + (c.len.result - c.len-len.result) + 1 ≡ c.args.place + 1 + 1 = omega (arith, more, c.len.ensures, c.len-len.ensures) in
    let numbers = rw back at (c.insert_after-marks.ensures.numbers (c.args.place - 1) (c.requires.kept.before pos)) in
    linked_next c.args.list.now.numbers c.insert_after-marks.new.self.numbers c.args.place (c.args.place + (c.len.result - c.len-len.result) + 1) c.args.number
    c.insert_after-marks.result c.requires.here numbers two
