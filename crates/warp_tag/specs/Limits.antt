-- The limits: each number once. Those that a version widens are by form, with a line for each. The code's constants are
-- tied to them by the contracts that cite these names.
use Rattle.std.specs.Prelude.{ℕ, Bool, false, true}
use Rattle.warp_tag.specs.declared.form.Form.{Form}
use Rattle.warp_tag.specs.declared.form.Form.TheVariants.{One, Two, Three, Four}

-- the widest form: what is in range in any is in range in it
abbrev pub widest : Form
widest = Four

-- the wider of two forms
abbrev pub wider : Form → Form → Form
wider One other = other
wider Two One = Two
wider Two Two = Two
wider Two Three = Three
wider Two Four = Four
wider Three One = Three
wider Three Two = Three
wider Three Three = Three
wider Three Four = Four
wider Four other = Four

-- whether all origins together can announce: a record of the fourth form alone
abbrev pub has_joint : Form → Bool
has_joint One = false
has_joint Two = false
has_joint Three = false
has_joint Four = true

-- the last time that a program can have as its stop
abbrev pub longest_stop : Form → ℕ
longest_stop One = 1000000
longest_stop Two = 10000000
longest_stop Three = 15624999
longest_stop Four = 15624999

-- the last time of a tag: one past the last stop, so that "everything up to the stop" has an end
abbrev pub last_time : Form → ℕ
last_time One = 1000001
last_time Two = 10000001
last_time Three = 15625000
last_time Four = 15625000

-- the last microstep of a time
abbrev pub last_microstep : Form → ℕ
last_microstep One = 15
last_microstep Two = 255
last_microstep Three = 255
last_microstep Four = 255

-- the longest delay, offset or period that a program can name
abbrev pub longest_period : Form → ℕ
longest_period One = 1000000
longest_period Two = 10000000
longest_period Three = 15624999
longest_period Four = 15624999

-- the longest delay of which is asked where it lands: two delays of a program, added
abbrev pub longest_delay : Form → ℕ
longest_delay One = 2000000
longest_delay Two = 20000000
longest_delay Three = 31249998
longest_delay Four = 31249998

-- the most origins of a program
abbrev pub most_origins : Form → ℕ
most_origins One = 32
most_origins Two = 64
most_origins Three = 64
most_origins Four = 64

-- the most reactors of a program
abbrev pub most_reactors : Form → ℕ
most_reactors One = 64
most_reactors Two = 64
most_reactors Three = 64
most_reactors Four = 256

-- the most variables of a program, the cells of its arrays among them
abbrev pub most_variables : Form → ℕ
most_variables One = 256
most_variables Two = 256
most_variables Three = 256
most_variables Four = 66560

-- the most ports of a program, inputs and outputs of its reactors together
abbrev pub most_ports : Form → ℕ
most_ports One = 256
most_ports Two = 256
most_ports Three = 256
most_ports Four = 1024

-- the most reactions of a program
abbrev pub most_reactions : Form → ℕ
most_reactions One = 256
most_reactions Two = 256
most_reactions Three = 256
most_reactions Four = 1024

-- the most links of a program
abbrev pub most_links : Form → ℕ
most_links One = 256
most_links Two = 256
most_links Three = 256
most_links Four = 1024

-- the most actions of a program
abbrev pub most_actions : Form → ℕ
most_actions One = 64
most_actions Two = 64
most_actions Three = 64
most_actions Four = 256

-- the most timers of a program
abbrev pub most_timers : Form → ℕ
most_timers One = 16
most_timers Two = 16
most_timers Three = 16
most_timers Four = 64

-- the most schedulings of a body
abbrev pub most_wishes : ℕ
most_wishes = 16

-- the most pending entries of a state
abbrev pub most_pending : ℕ
most_pending = 256

-- the greatest count: it stays there
abbrev pub greatest_count : ℕ
greatest_count = 18446744073709551615

-- the most inputs of a program
abbrev pub most_inputs : Form → ℕ
most_inputs One = 64
most_inputs Two = 64
most_inputs Three = 64
most_inputs Four = 256

-- the most outputs of a program
abbrev pub most_outputs : Form → ℕ
most_outputs One = 64
most_outputs Two = 64
most_outputs Three = 64
most_outputs Four = 256

-- the greatest number of a variable, an output, a place or a row that a line can name
abbrev pub last_number : ℕ
last_number = 4294967295

-- the most names of a table
abbrev pub most_names : ℕ
most_names = 4000000000

-- the most records of a log
abbrev pub most_records : Form → ℕ
most_records One = 100000
most_records Two = 100000
most_records Three = 10000000
most_records Four = 10000000

-- the most rows of a board
abbrev pub most_rows : Form → ℕ
most_rows One = 4096
most_rows Two = 4096
most_rows Three = 1048576
most_rows Four = 1048576

-- the most bytes of a line, without its line feed
abbrev pub longest_line : ℕ
longest_line = 128

-- the most reads of a session
abbrev pub most_reads : ℕ
most_reads = 1000000000
