use Rattle.ts_base.proofs.tests.counted_work_takes_no_bytes.Given as goal

abbrev pub ghosts-bytes_of_a_count : goal.ghosts-bytes_of_a_count
ghosts-bytes_of_a_count g a = record { name = a.blank.name; parts = a.blank.parts }
