use Rattle.scan_numbers.specs.Tokens.{fed}
use Rattle.scan_numbers.proofs.Dimensions.{piece_follows}
use Rattle.scan_numbers.proofs.dimen.Dimen.feed.Goals as goal

pub returns-in-Signs : goal.returns-in-Signs
returns-in-Signs c = piece_follows c.args.self _ (fed c.args.token.now c.args.context.now) _ c.in-Signs.is c.begin.ensures

pub returns-in-Register : goal.returns-in-Register
returns-in-Register c = piece_follows c.args.self _ (fed c.args.token.now c.args.context.now) _ c.in-Register.is c.in_register.ensures

pub returns-in-Whole : goal.returns-in-Whole
returns-in-Whole c = piece_follows c.args.self _ (fed c.args.token.now c.args.context.now) _ c.in-Whole.is c.in_whole.ensures

pub returns-in-Constant : goal.returns-in-Constant
returns-in-Constant c = piece_follows c.args.self _ (fed c.args.token.now c.args.context.now) _ c.in-Constant.is c.in_constant.ensures

pub returns-in-Fraction : goal.returns-in-Fraction
returns-in-Fraction c = piece_follows c.args.self _ (fed c.args.token.now c.args.context.now) _ c.in-Fraction.is c.in_fraction.ensures

pub returns-in-Unit : goal.returns-in-Unit
returns-in-Unit c = piece_follows c.args.self _ (fed c.args.token.now c.args.context.now) _ c.in-Unit.is c.in_unit.ensures

pub returns-in-UnitRegister : goal.returns-in-UnitRegister
returns-in-UnitRegister c = piece_follows c.args.self _ (fed c.args.token.now c.args.context.now) _ c.in-UnitRegister.is c.in_unit_register.ensures

pub returns-in-Letter : goal.returns-in-Letter
returns-in-Letter c = piece_follows c.args.self _ (fed c.args.token.now c.args.context.now) _ c.in-Letter.is c.in_letter.ensures

pub returns-in-Space : goal.returns-in-Space
returns-in-Space c = piece_follows c.args.self _ (fed c.args.token.now c.args.context.now) _ c.in-Space.is c.in_space.ensures

pub returns-in-Fil : goal.returns-in-Fil
returns-in-Fil c = piece_follows c.args.self _ (fed c.args.token.now c.args.context.now) _ c.in-Fil.is c.in_fil.ensures

pub returns-in-Infinite : goal.returns-in-Infinite
returns-in-Infinite c = piece_follows c.args.self _ (fed c.args.token.now c.args.context.now) _ c.in-Infinite.is c.in_infinite.ensures
