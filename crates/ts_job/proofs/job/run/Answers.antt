use Rattle.std.proofs.Common.{refl}
use Rattle.std.specs.Prelude.{map, string_bytes}
use Rattle.ts_job.specs.Promise.{held_widths, pages_meant}
use mathlib.Core.Logic.{inl, inr}
use Rattle.ts_job.proofs.Endings.{text_page, text_fault, text_usage, whole_prefix}
use Rattle.ts_job.proofs.job.run.Goals as goal
use Rattle.ts_job.proofs.job.run.Goals.{in-Page+in-Ok, in-Fault, in-Usage}

pub returns-in-Ok-tell-clause-text : goal.returns-in-Ok-tell-clause-text
returns-in-Ok-tell-clause-text g c = λ held told.
    let words = map string_bytes c.args.words.now.items in
    let widths = held_widths held in
    let pages = pages_meant held words in
    elim c.match-ending_of.branch [
      | in-Page+in-Ok w ↦ rw w.outcome-is (rw (text_page widths pages w.in-Page.dvi (w.in-Page.ensures.exact held told)) at (rw w.outcome-is at c.in-Ok-tell.ensures.all))
      | in-Fault w ↦ rw w.outcome-is (rw (text_fault widths pages (w.in-Fault.ensures.exact held told)) at (rw w.outcome-is at c.in-Ok-tell.ensures.all))
      | in-Usage w ↦ rw w.outcome-is (rw (text_usage widths pages (w.in-Usage.ensures.exact held told)) at (rw w.outcome-is at c.in-Ok-tell.ensures.all))
    ]

pub returns-in-Err-Failed-tell-clause-text : goal.returns-in-Err-Failed-tell-clause-text
returns-in-Err-Failed-tell-clause-text g c = λ held told.
    let words = map string_bytes c.args.words.now.items in
    let widths = held_widths held in
    let pages = pages_meant held words in
    elim c.match-ending_of.branch [
      | in-Page+in-Ok w ↦ rw (text_page widths pages w.in-Page.dvi (w.in-Page.ensures.exact held told)) at (rw w.outcome-is at c.in-Err-Failed-tell.ensures.part)
      | in-Fault w ↦ rw (text_fault widths pages (w.in-Fault.ensures.exact held told)) at (rw w.outcome-is at c.in-Err-Failed-tell.ensures.part)
      | in-Usage w ↦ rw (text_usage widths pages (w.in-Usage.ensures.exact held told)) at (rw w.outcome-is at c.in-Err-Failed-tell.ensures.part)
    ]

pub returns-clause-text : goal.returns-clause-text
returns-clause-text g c = λ held told.
    let words = map string_bytes c.args.words.now.items in
    let widths = held_widths held in
    let pages = pages_meant held words in
    elim c.match-ending_of.branch [
      | in-Page+in-Ok w ↦ rw (text_page widths pages w.in-Page.dvi (w.in-Page.ensures.exact held told)) at (rw w.outcome-is at c.in-Err-NoMemory-tell.ensures.part)
      | in-Fault w ↦ rw (text_fault widths pages (w.in-Fault.ensures.exact held told)) at (rw w.outcome-is at c.in-Err-NoMemory-tell.ensures.part)
      | in-Usage w ↦ rw (text_usage widths pages (w.in-Usage.ensures.exact held told)) at (rw w.outcome-is at c.in-Err-NoMemory-tell.ensures.part)
    ]

pub returns-in-Err-Failed-tell-clause-pages : goal.returns-in-Err-Failed-tell-clause-pages
returns-in-Err-Failed-tell-clause-pages g c = λ held told.
    elim c.match-ending_of.branch [
      | in-Page+in-Ok w ↦ inr (_, (w.in-Page.ensures.exact held told).2, rw w.out-is (whole_prefix _ w.in-Page.dvi.items (rw w.deref.ensures.value at w.in-Ok.ensures.all)))
      | in-Fault w ↦ inl (rw w.out-is refl)
      | in-Usage w ↦ inl (rw w.out-is refl)
    ]

pub returns-clause-pages : goal.returns-clause-pages
returns-clause-pages g c = λ held told.
    elim c.match-ending_of.branch [
      | in-Page+in-Ok w ↦ inr (_, (w.in-Page.ensures.exact held told).2, rw w.out-is (whole_prefix _ w.in-Page.dvi.items (rw w.deref.ensures.value at w.in-Ok.ensures.all)))
      | in-Fault w ↦ inl (rw w.out-is refl)
      | in-Usage w ↦ inl (rw w.out-is refl)
    ]
