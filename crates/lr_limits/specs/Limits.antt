-- The limits, each as a number. Where nothing else is said they are this project's own.
use Rattle.std.specs.Prelude.{ℕ}

-- bytes of a line of a schedule, without its LF
abbrev pub line_limit : ℕ
line_limit = 512

-- bytes of the name of an object
abbrev pub name_limit : ℕ
name_limit = 64

-- bytes of a key, a field or a member
abbrev pub brief_limit : ℕ
brief_limit = 128

-- threads of a client, numbered from 1
abbrev pub thread_limit : ℕ
thread_limit = 256

-- clients of a schedule, numbered from 1
abbrev pub client_limit : ℕ
client_limit = 64

-- events of a schedule
abbrev pub event_limit : ℕ
event_limit = 1000000

-- the last moment that a clock shows, in milliseconds: 2 to the 53rd, less 1
abbrev pub last_moment : ℕ
last_moment = 9007199254740991

-- the deadline of what never expires: 2 to the 63rd, less 1
abbrev pub never : ℕ
never = 9223372036854775807

-- the longest lease, in milliseconds: a thousand days
abbrev pub longest_lease : ℕ
longest_lease = 86400000000

-- the lease of the watchdog, in milliseconds: Redisson's default
abbrev pub watchdog_lease : ℕ
watchdog_lease = 30000

-- how many times an owner may hold an object at once
abbrev pub hold_limit : ℕ
hold_limit = 1000000

-- the last token of a fenced lock: 2 to the 53rd, less 1, so that every client can hold it exactly
abbrev pub token_limit : ℕ
token_limit = 9007199254740991

-- permits or counts of an object, and how many are asked for at once
abbrev pub amount_limit : ℕ
amount_limit = 1000000000

-- members of a key
abbrev pub member_limit : ℕ
member_limit = 65536

-- items that wait in the outbox of a connection
abbrev pub outbox_limit : ℕ
outbox_limit = 16384

-- connections of a server, numbered from 0
abbrev pub connection_limit : ℕ
connection_limit = 256

-- entries of a history, behind which only closes may stand
abbrev pub entry_limit : ℕ
entry_limit = 2000000
