use Rattle.std.proofs.Common.{◌≡◌, ◌≤◌, List, [], ◌∷◌, ◌++◌, length, sym, ap, ◌∙◌, arith, length-append}
use Rattle.std.proofs.lemmas.List.{take_all}
use Rattle.dvi_commands.specs.declared.font.FontDef.{FontDef}
use Rattle.dvi_writer.specs.Tables.{known}
use Rattle.dvi_writer.proofs.tests.with_another.Goals as goal

known_short : (fs : List FontDef) → length fs ≤ 256 → known fs ≡ fs
unfolding known
known_short fs few = take_all 256 fs few

pub returns-clause-begins : goal.returns-clause-begins
returns-clause-begins c =
    let old : List FontDef = c.args.fonts.now in
    let new : known (old ++ c.in_ok-font.field-0 ∷ []) ≡ old ++ c.in_ok-font.field-0 ∷ [] = known_short (old ++ c.in_ok-font.field-0 ∷ []) (omega (arith, c.requires.one, length-append old (c.in_ok-font.field-0 ∷ []))) in
    (c.in_ok-font.field-0 ∷ [], ap known c.in_ok-push.ensures.ok ∙ new ∙ ap (λ (t : List FontDef). t ++ c.in_ok-font.field-0 ∷ []) (sym (known_short old (omega (arith, c.requires.one)))))
