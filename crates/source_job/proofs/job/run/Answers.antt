use Rattle.std.proofs.Common.{◌≡◌, ◌∙◌, refl, sym, map, string_bytes, true, false}
use mathlib.Core.Logic.{inl, inr}
use Rattle.source_job.specs.Promise.{is_told, boxes_meant, outcome_meant, report_meant}
use Rattle.source_job.proofs.Reporting.{writes_part, usage_none, is_finished, appends_same, text_same, reports_itself, quiet_reports, quiet_itself, quiet_last, quiet_sinks, told_reports, told_last, told_sinks, told_files, complete}
use Rattle.source_job.proofs.job.run.Goals as goal

-- ---- an outcome that isn't reported

pub returns-then-not-is_told-clause-text : goal.returns-then-not-is_told-clause-text
returns-then-not-is_told-clause-text g c held told =
    quiet_reports c.set-outcome.result.0 (report_meant held (map string_bytes c.args.words.now.items)) _ (sym c.is_told.ensures ∙ c.if-not-is_told.true)

pub returns-then-not-is_told-clause-last : goal.returns-then-not-is_told-clause-last
returns-then-not-is_told-clause-last g c held told =
    quiet_last c.set-outcome.result.0 _ _ (sym c.is_told.ensures ∙ c.if-not-is_told.true) refl

pub returns-then-not-is_told-clause-itself : goal.returns-then-not-is_told-clause-itself
returns-then-not-is_told-clause-itself g c =
    quiet_itself c.set-outcome.result.0 _ (sym c.is_told.ensures ∙ c.if-not-is_told.true)

pub returns-then-not-is_told-clause-sinks : goal.returns-then-not-is_told-clause-sinks
returns-then-not-is_told-clause-sinks g c =
    quiet_sinks c.set-outcome.result.0 _ _ _ _ (sym c.is_told.ensures ∙ c.if-not-is_told.true) refl c.set-outcome.ensures.out

pub returns-then-not-is_told-clause-complete : goal.returns-then-not-is_told-clause-complete
returns-then-not-is_told-clause-complete g c held told =
    let quiet : is_told c.set-outcome.result.0 ≡ false = sym c.is_told.ensures ∙ c.if-not-is_told.true in
    complete c.set-outcome.result.0 (outcome_meant held (map string_bytes c.args.words.now.items)) (c.args.report.now ≡ c.args.report.now) _ _ _ _ _ _ (c.set-outcome.ensures.outcome held told) c.set-outcome.ensures.files
    (quiet_sinks c.set-outcome.result.0 _ _ _ _ quiet refl c.set-outcome.ensures.out)

-- ---- one that is

pub returns-in-Ok-clause-text : goal.returns-in-Ok-clause-text
returns-in-Ok-clause-text g c held told =
    let words = map string_bytes c.args.words.now.items in
    let meant : is_told c.set-outcome.result.0 ≡ true = sym c.is_told.ensures ∙ c.if-not-is_told.false in
    let same = text_same c.set-outcome.result.0 (outcome_meant held words) c.set-outcome.result.1 (boxes_meant held words) meant (c.set-outcome.ensures.outcome held told) (c.set-outcome.ensures.number held told) in
    rw (← same) (told_reports c.set-outcome.result.0 _ _ _ meant c.in-Ok.ensures.all)

pub returns-in-Ok-clause-last : goal.returns-in-Ok-clause-last
returns-in-Ok-clause-last g c held told =
    let words = map string_bytes c.args.words.now.items in
    let meant : is_told c.set-outcome.result.0 ≡ true = sym c.is_told.ensures ∙ c.if-not-is_told.false in
    told_last c.set-outcome.result.0 _ _ meant (is_finished c.set-outcome.result.0 (boxes_meant held words) _ _ meant (usage_none c.set-outcome.result.0 held words c.set-outcome.ensures.usage) (c.set-outcome.ensures.pages held told))

pub returns-in-Ok-clause-itself : goal.returns-in-Ok-clause-itself
returns-in-Ok-clause-itself g c =
    reports_itself c.set-outcome.result.0 c.set-outcome.result.1 _ _ (sym c.is_told.ensures ∙ c.if-not-is_told.false) c.in-Ok.ensures.all

pub returns-in-Ok-clause-sinks : goal.returns-in-Ok-clause-sinks
returns-in-Ok-clause-sinks g c =
    told_sinks c.set-outcome.result.0 _ _ _ _ _ (sym c.is_told.ensures ∙ c.if-not-is_told.false) c.set-outcome.ensures.out c.in-Ok.ensures.counted

pub returns-in-Ok-clause-complete : goal.returns-in-Ok-clause-complete
returns-in-Ok-clause-complete g c held told =
    let meant : is_told c.set-outcome.result.0 ≡ true = sym c.is_told.ensures ∙ c.if-not-is_told.false in
    complete c.set-outcome.result.0 (outcome_meant held (map string_bytes c.args.words.now.items)) (c.args.report.now ≡ c.args.report.now) _ _ _ _ _ _ (c.set-outcome.ensures.outcome held told) c.set-outcome.ensures.files
    (told_sinks c.set-outcome.result.0 _ _ _ _ _ meant c.set-outcome.ensures.out c.in-Ok.ensures.counted)

-- ---- one whose report fails

pub returns-in-Err-Failed-clause-pages : goal.returns-in-Err-Failed-clause-pages
returns-in-Err-Failed-clause-pages g c held told =
    writes_part c.whole_pages_are_the_first.ensures c.set-outcome.result.0 (boxes_meant held (map string_bytes c.args.words.now.items)) _ _ (sym c.is_told.ensures ∙ c.if-not-is_told.false) (c.set-outcome.ensures.pages held told)

pub returns-in-Err-Failed-clause-text : goal.returns-in-Err-Failed-clause-text
returns-in-Err-Failed-clause-text g c held told =
    let words = map string_bytes c.args.words.now.items in
    let meant : is_told c.set-outcome.result.0 ≡ true = sym c.is_told.ensures ∙ c.if-not-is_told.false in
    let same = text_same c.set-outcome.result.0 (outcome_meant held words) c.set-outcome.result.1 (boxes_meant held words) meant (c.set-outcome.ensures.outcome held told) (c.set-outcome.ensures.number held told) in
    rw (← same) c.in-Err-Failed.ensures.part

pub returns-in-Err-Failed-clause-last : goal.returns-in-Err-Failed-clause-last
returns-in-Err-Failed-clause-last g c held told =
    let words = map string_bytes c.args.words.now.items in
    let meant : is_told c.set-outcome.result.0 ≡ true = sym c.is_told.ensures ∙ c.if-not-is_told.false in
    inr (is_finished c.set-outcome.result.0 (boxes_meant held words) _ _ meant (usage_none c.set-outcome.result.0 held words c.set-outcome.ensures.usage) (c.set-outcome.ensures.pages held told))

pub returns-in-Err-Failed-clause-appends : goal.returns-in-Err-Failed-clause-appends
returns-in-Err-Failed-clause-appends g c = appends_same c.set-outcome.result.0 _ _ c.set-outcome.ensures.appends

pub returns-in-Err-Failed-clause-itself : goal.returns-in-Err-Failed-clause-itself
returns-in-Err-Failed-clause-itself g c = (c.set-outcome.result.1, c.set-outcome.result.0, c.in-Err-Failed.ensures.part)

pub returns-in-Err-Failed-clause-files : goal.returns-in-Err-Failed-clause-files
returns-in-Err-Failed-clause-files g c =
    told_files c.set-outcome.result.0 _ _ (sym c.is_told.ensures ∙ c.if-not-is_told.false) c.set-outcome.ensures.files

-- ---- one for whose report memory runs out

pub returns-clause-pages : goal.returns-clause-pages
returns-clause-pages g c held told =
    writes_part c.whole_pages_are_the_first.ensures c.set-outcome.result.0 (boxes_meant held (map string_bytes c.args.words.now.items)) _ _ (sym c.is_told.ensures ∙ c.if-not-is_told.false) (c.set-outcome.ensures.pages held told)

pub returns-clause-text : goal.returns-clause-text
returns-clause-text g c held told =
    let words = map string_bytes c.args.words.now.items in
    let meant : is_told c.set-outcome.result.0 ≡ true = sym c.is_told.ensures ∙ c.if-not-is_told.false in
    let same = text_same c.set-outcome.result.0 (outcome_meant held words) c.set-outcome.result.1 (boxes_meant held words) meant (c.set-outcome.ensures.outcome held told) (c.set-outcome.ensures.number held told) in
    rw (← same) c.in-Err-NoMemory.ensures.part

pub returns-clause-last : goal.returns-clause-last
returns-clause-last g c held told =
    let words = map string_bytes c.args.words.now.items in
    let meant : is_told c.set-outcome.result.0 ≡ true = sym c.is_told.ensures ∙ c.if-not-is_told.false in
    inr (is_finished c.set-outcome.result.0 (boxes_meant held words) _ _ meant (usage_none c.set-outcome.result.0 held words c.set-outcome.ensures.usage) (c.set-outcome.ensures.pages held told))

pub returns-clause-appends : goal.returns-clause-appends
returns-clause-appends g c = appends_same c.set-outcome.result.0 _ _ c.set-outcome.ensures.appends

pub returns-clause-itself : goal.returns-clause-itself
returns-clause-itself g c = (c.set-outcome.result.1, c.set-outcome.result.0, c.in-Err-NoMemory.ensures.part)

pub returns-clause-files : goal.returns-clause-files
returns-clause-files g c =
    told_files c.set-outcome.result.0 _ _ (sym c.is_told.ensures ∙ c.if-not-is_told.false) c.set-outcome.ensures.files

pub returns-clause-complete : goal.returns-clause-complete
returns-clause-complete g c held told no_file no_out no_report = inr refl
