use Rattle.std.proofs.Common.{◌≡◌, length, vec_len, arith}
use Rattle.scan_numbers.specs.Tokens.{fed}
use Rattle.scan_syntax.proofs.FileNames.{space_on, first_follows, later_follows}
use Rattle.scan_syntax.proofs.naming.Naming.feed.Goals as goal

pub returns-then-is_space : goal.returns-then-is_space
returns-then-is_space c =
    let count : vec_len c.args.self.bytes ≡ length c.args.self.bytes.items = omega arith in
    λ rest. space_on c.args.self _ _ rest (rw count at c.if-is_empty.ensures) c.if-is_space.ensures

pub returns-else-is_space : goal.returns-else-is_space
returns-else-is_space c =
    let count : vec_len c.args.self.bytes ≡ length c.args.self.bytes.items = omega arith in
    first_follows c.args.self c.args.token.now c.args.context.now c.go_on.result (rw count at c.if-is_empty.ensures) c.if-is_space.ensures c.go_on.ensures

pub returns-else-is_empty : goal.returns-else-is_empty
returns-else-is_empty c =
    let count : vec_len c.args.self.bytes ≡ length c.args.self.bytes.items = omega arith in
    later_follows c.args.self (fed c.args.token.now c.args.context.now) c.go_on-else-is_empty.result (rw count at c.if-is_empty.ensures) c.go_on-else-is_empty.ensures
