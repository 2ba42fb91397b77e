use Rattle.std.proofs.Common.{rules}
use Rattle.jlist_builder.proofs.Joining.{letter_holds, joins_full, letter_full, letter_stands, joined_is, beside_is}
use Rattle.jlist_builder.specs.Entries.{AreWords}
use Rattle.jlist_builder.specs.Pieces.{joint}
use Rattle.jlist_builder.proofs.builder.HBuilder.letter.Goals as goal

pub returns-in-Joined-clause-stands : goal.returns-in-Joined-clause-stands
returns-in-Joined-clause-stands g c = λ a of e s.
    let words : AreWords c.args.letter.kinsoku = search rules in
    let joins = joined_is (joint c.args.font.now c.args.z c.args.self.now.run c.args.letter) _ c.in-Joined.joint c.in-Joined.ensures in
    letter_holds c.args.self.now c.hold.new.self c.args.font.now c.args.z c.args.letter a of e s c.in-Joined.joint joins c.hold.ensures words

pub returns-in-Joined-clause-full : goal.returns-in-Joined-clause-full
returns-in-Joined-clause-full g c = λ a of e s.
    let words : AreWords c.args.letter.kinsoku = search rules in
    let joins = joined_is (joint c.args.font.now c.args.z c.args.self.now.run c.args.letter) _ c.in-Joined.joint c.in-Joined.ensures in
    joins_full c.args.self.now c.hold.new.self c.args.font.now c.args.z c.args.letter a of e s c.in-Joined.joint joins c.hold.ensures words

pub returns-in_err-make_room-clause-full : goal.returns-in_err-make_room-clause-full
returns-in_err-make_room-clause-full g c = λ a of e s.
    let beside = beside_is (joint c.args.font.now c.args.z c.args.self.now.run c.args.letter) _ c.in-Beside.space c.in-Beside.ensures in
    let full = letter_full c.args.self.now c.args.self.now c.args.font.now c.args.z c.args.letter a of e s beside.0 in
    search (rules, full, beside)

pub returns-clause-stands : goal.returns-clause-stands
returns-clause-stands g c = λ a of e s.
    let beside = beside_is (joint c.args.font.now c.args.z c.args.self.now.run c.args.letter) _ c.in-Beside.space c.in-Beside.ensures in
    let words : AreWords c.args.letter.kinsoku = search rules in
    letter_stands c.args.self.now c.hold-2.new.self c.args.font.now c.args.z c.args.letter a of e s beside.0
    (search rules) (search rules) (search rules) (search rules) (search rules) (search rules) words

pub returns-clause-full : goal.returns-clause-full
returns-clause-full g c = λ a of e s.
    let beside = beside_is (joint c.args.font.now c.args.z c.args.self.now.run c.args.letter) _ c.in-Beside.space c.in-Beside.ensures in
    let full = letter_full c.args.self.now c.args.self.now c.args.font.now c.args.z c.args.letter a of e s beside.0 in
    search (rules, full, beside)
