use Rattle.std.proofs.Common.{rules, sym, ◌≡◌, Some}
use Rattle.tfm_load.specs.Metrics.{measures_of}
use Rattle.jlist_builder.proofs.Joining.{has_measures, letter_of_font, and_full}
use Rattle.jlist_builder.specs.Entries.{european}
use Rattle.jlist_builder.proofs.builder.HBuilder.roman.Goals as goal

pub returns-in_err-letter-clause-full : goal.returns-in_err-letter-clause-full
returns-in_err-letter-clause-full g c = λ e s.
    let some : measures_of c.args.font.now c.args.code c.args.z ≡ Some c.in-Some.size = sym c.in-Some.ensures.value in
    let has = has_measures c.args.font.now c.args.code c.args.z c.in-Some.size some in
    let of = letter_of_font c.args.font.now c.args.number c.args.z c.args.code c.args.shift c.args.kinsoku c.in-Some.size some in
    let full = c.letter.ensures.full (european c.args.font.now c.args.number c.args.z c.args.code c.args.shift c.args.kinsoku) of e s in
    and_full _ _ _ has (search (rules, full))

pub returns-clause-stands : goal.returns-clause-stands
returns-clause-stands g c = λ e s.
    let some : measures_of c.args.font.now c.args.code c.args.z ≡ Some c.in-Some.size = sym c.in-Some.ensures.value in
    let of = letter_of_font c.args.font.now c.args.number c.args.z c.args.code c.args.shift c.args.kinsoku c.in-Some.size some in
    c.in_ok-letter.ensures.stands (european c.args.font.now c.args.number c.args.z c.args.code c.args.shift c.args.kinsoku) of e s

pub returns-clause-full : goal.returns-clause-full
returns-clause-full g c = λ e s.
    let some : measures_of c.args.font.now c.args.code c.args.z ≡ Some c.in-Some.size = sym c.in-Some.ensures.value in
    let has = has_measures c.args.font.now c.args.code c.args.z c.in-Some.size some in
    let of = letter_of_font c.args.font.now c.args.number c.args.z c.args.code c.args.shift c.args.kinsoku c.in-Some.size some in
    let full = c.in_ok-letter.ensures.full (european c.args.font.now c.args.number c.args.z c.args.code c.args.shift c.args.kinsoku) of e s in
    and_full _ _ _ has full
