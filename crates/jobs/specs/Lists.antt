-- Lists of jobs.
use Rattle.std.specs.Prelude.{ℕ, List, take}
use Rattle.jobs.specs.declared.list.JobList.{JobList}

-- the jobs that are listed, in order
abbrev pub listed : JobList → List ℕ
listed l = take l.len l.jobs
