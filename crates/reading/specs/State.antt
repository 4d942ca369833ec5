-- What a session knows before its first record, and after each. Assumes nothing.
use Rattle.std.specs.Prelude.{ℕ, ◌+◌, ◌<◌, min, true, false, Some, None, Ok, Err}
use Rattle.reading.specs.declared.Session.{Session}
use Rattle.reading.specs.Records.{Next}
use Rattle.reading.specs.declared.Record.{Record}
use Rattle.reading.specs.declared.Record.TheVariants.{Head, Entry, Ask}

abbrev pub start_of : Session
start_of = record { records = 0; words = 0; tables = 0; entries = 0; asked = false }

-- the next record's number; no session has more than 65,535 records before it
abbrev pub number_of : Session → ℕ
number_of session = min session.records 65535 + 1

-- what is known after a record
abbrev pub next_of : Session → Next → Session
next_of session (Err e) = session
next_of session (Ok None) = session
next_of session (Ok (Some (Head w m))) = record { records = number_of session; words = w; tables = m; entries = session.entries; asked = session.asked }
next_of session (Ok (Some (Entry star code))) =
    record { records = number_of session; words = session.words; tables = session.tables; entries = session.entries + 1; asked = session.asked }
next_of session (Ok (Some (Ask question))) =
    record { records = number_of session; words = session.words; tables = session.tables; entries = session.entries; asked = true }

-- a session has room for a record
abbrev pub Room : Session → Record → Type 0
Room session (Head w m) = Unit {0}
Room session (Entry star code) = session.entries < 512
Room session (Ask question) = Unit {0}
