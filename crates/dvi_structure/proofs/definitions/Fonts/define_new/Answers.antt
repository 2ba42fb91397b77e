use Rattle.std.proofs.Common.{rules, w32, ap, sym, ◌∙◌, ◌≡◌, ℕ, List, Option, None, Some, cond, int_eq}
use Rattle.std.proofs.lemmas.Int.{to_z-of_z}
use mir.Val.{SFits}
use Rattle.dvi_commands.specs.declared.font.FontDef.{FontDef}
use Rattle.dvi_structure.specs.Structure.{font_of}
use Rattle.dvi_structure.specs.FontPlaces.{named_font, place_of}
use Rattle.dvi_structure.proofs.FontPlacing.{no_place, places_more}
use Rattle.dvi_structure.proofs.definitions.Fonts.define_new.Goals as goal

pub invariant_of-self-in-Ok : goal.invariant_of-self-in-Ok
invariant_of-self-in-Ok c =
    let fonts = c.self.inside.defined.items in
    let font = named_font c.args.numbers c.args.name in
    let none = (let here : font_of fonts c.args.numbers.number ≡ None = cc in no_place fonts c.args.numbers.number here) in
    record {
      at = λ n.
          let number = c.args.numbers.number in
          let at : ℕ = c.in_ok-place.place in
          let old = ap (λ (r : Option ℕ). cond (int_eq number n) (Some at) r) (c.self.invariant.at n) in
          let len = ap (λ (k : ℕ). cond (int_eq number n) (Some k) (place_of fonts n)) c.in_ok-place.ensures.place in
          let fits : SFits w32 number = search rules in
          let back = to_z-of_z w32 number fits in
          let added = ap (λ (xs : List FontDef). place_of xs n) (rw back at c.in_ok-place.ensures.ok) in
          (rw back at (c.in-Ok.ensures.updates.0 n)) ∙ old ∙ len ∙ places_more fonts font n none ∙ sym added;
    }
