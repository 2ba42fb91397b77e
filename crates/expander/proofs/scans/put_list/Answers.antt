use Rattle.std.proofs.Common.{◌≡◌, ◌∙◌}
use Rattle.expander.proofs.scans.put_list.Goals as goal

pub push-requires-clause-no_param : goal.push-requires-clause-no_param
push-requires-clause-no_param c =
    let same : c.in_ok-list.list ≡ c.args.tokens.now = c.in_ok-list.ensures ∙ c.as_slice.ensures in
    rw same c.requires.known.0

pub push-requires-clause-held : goal.push-requires-clause-held
push-requires-clause-held c =
    let same : c.in_ok-list.list ≡ c.args.tokens.now = c.in_ok-list.ensures ∙ c.as_slice.ensures in
    rw same c.requires.known.1

pub returns-clause-exact : goal.returns-clause-exact
returns-clause-exact c =
    let same : c.in_ok-list.list ≡ c.args.tokens.now = c.in_ok-list.ensures ∙ c.as_slice.ensures in
    rw same at c.push.ensures.exact

pub returns-clause-size : goal.returns-clause-size
returns-clause-size c =
    let same : c.in_ok-list.list ≡ c.args.tokens.now = c.in_ok-list.ensures ∙ c.as_slice.ensures in
    rw same at c.push.ensures.grows
