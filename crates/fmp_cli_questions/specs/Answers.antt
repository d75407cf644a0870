-- What is told of answers: a line of each, and all in one XML text.
use Rattle.std.specs.Prelude.{ℕ, ◌+◌, ◌/◌, ◌%◌, ◌==◌, Bool, true, false, nat_lt, List, [], ◌∷◌, ◌++◌, length, decimal, if◌then◌else◌, codes}
use Rattle.fmp_bytes.specs.Bytes.{quotation_mark}
use Rattle.fmp_cli_questions.specs.Rows.{Row}
use Rattle.fmp_cli_questions.specs.declared.rows.Expected.{Expected}
use Rattle.fmp_cli_questions.specs.declared.rows.Expected.TheVariants as expected
use Rattle.fmp_cli_questions.specs.declared.answers.Answer.{Answer}
use Rattle.fmp_cli_questions.specs.declared.answers.Answer.TheVariants.{Never, Shown, NotWithin}
use Rattle.fmp_cli_questions.specs.declared.answers.Judgement.{Judgement}
use Rattle.fmp_cli_questions.specs.declared.answers.Judgement.TheVariants.{Right, Wrong, Unknown}
use Rattle.fmp_cli_questions.specs.declared.answers.Reply.{Reply}
use Rattle.fmp_cli_questions.specs.declared.junit.TheConstants.{MESSAGE, CASE, TIME, FAILURES, ERRORS, END}
use Rattle.fmp_cli_questions.specs.declared.lines.TheConstants.{TAP}
use Rattle.fmp_cli_questions.specs.declared.reading.RowKind.{RowKind}
use Rattle.fmp_cli_questions.specs.declared.reading.RowKind.TheVariants.{Form, Twice, TooMany}

-- the words of a fault
abbrev pub fault_words : RowKind → List ℕ
fault_words Form = codes "expected a name, never or shown, and a question"
fault_words Twice = codes "an earlier line has this name"
fault_words TooMany = codes "there are more than 1000 questions"

-- ---- whether it is as expected

abbrev pub judged : Expected → Answer → Judgement
judged expected.Never Never = Right
judged expected.Never (Shown lines) = Wrong
judged expected.Never (NotWithin lines) = Unknown
judged expected.Shown Never = Wrong
judged expected.Shown (Shown lines) = Right
judged expected.Shown (NotWithin lines) = Unknown

abbrev pub judgement : Reply → Judgement
judgement reply = judged reply.row.expected reply.answer

abbrev pub is_same : Judgement → Judgement → Bool
is_same Right Right = true
is_same Right Wrong = false
is_same Right Unknown = false
is_same Wrong Right = false
is_same Wrong Wrong = true
is_same Wrong Unknown = false
is_same Unknown Right = false
is_same Unknown Wrong = false
is_same Unknown Unknown = true

-- how many replies are judged so
abbrev pub count_of : Judgement → List Reply → ℕ
count_of sort [] = 0
count_of sort (reply ∷ replies) = (if is_same sort (judgement reply) then 1 else 0) + count_of sort replies

-- wrong where one is, else unknown where one is
abbrev pub judgement_of : List Reply → Judgement
judgement_of replies =
    if nat_lt 0 (count_of Wrong replies) then Wrong
    else (if nat_lt 0 (count_of Unknown replies) then Unknown else Right)

-- ---- a line

-- words, and a number after them
unfoldable pub counted : List ℕ → ℕ → List ℕ
counted words number = words ++ decimal number

abbrev pub words_of : Answer → List ℕ
words_of Never = codes "never"
words_of (Shown lines) = counted (codes "shown in ") lines ++ codes " lines"
words_of (NotWithin lines) = counted (codes "not within ") lines

-- a name, and the answer
abbrev pub report : Reply → List ℕ
report reply = reply.row.name ++ codes ": " ++ words_of reply.answer

abbrev pub grade : Judgement → List ℕ
grade Right = codes "ok "
grade Wrong = codes "not ok "
grade Unknown = codes "not known "

abbrev pub plain_line : Reply → List ℕ
plain_line reply = grade (judgement reply) ++ report reply ++ codes "\n"

-- the same in the form of TAP, where what is not known is not ok
abbrev pub tap_head : ℕ → List ℕ
tap_head count = counted TAP.now count ++ codes "\n"

abbrev pub tap_grade : Judgement → List ℕ
tap_grade Right = codes "ok "
tap_grade Wrong = codes "not ok "
tap_grade Unknown = codes "not ok "

-- what stands between the name and the answer: the end of the line, and a comment, so that the name of a test never has its answer
abbrev pub tap_comment : Judgement → List ℕ
tap_comment Right = codes "\n# "
tap_comment Wrong = codes "\n# "
tap_comment Unknown = codes "\n# not known: "

abbrev pub tap_line : ℕ → Reply → List ℕ
tap_line number reply =
    counted (tap_grade (judgement reply)) number ++ codes " - " ++ reply.row.name ++ tap_comment (judgement reply) ++ words_of reply.answer ++ codes "\n"

-- ---- all in an XML text, as JUnit has it

-- the bytes that have a name of their own in XML
abbrev pub ampersand : ℕ
ampersand = 38

abbrev pub less_than_sign : ℕ
less_than_sign = 60

abbrev pub greater_than_sign : ℕ
greater_than_sign = 62

abbrev pub escaped_byte : ℕ → List ℕ
escaped_byte b =
    if b == ampersand then codes "&amp;"
    else (if b == less_than_sign then codes "&lt;"
    else (if b == greater_than_sign then codes "&gt;"
    else (if b == quotation_mark then codes "&quot;" else (b ∷ []))))

abbrev pub escaped : List ℕ → List ℕ
escaped [] = []
escaped (b ∷ bytes) = escaped_byte b ++ escaped bytes

-- why a case is not passed: the answer, and the question, in an element of this name
abbrev pub why : Reply → List ℕ
why reply = MESSAGE.now ++ words_of reply.answer ++ codes "\">" ++ escaped reply.row.question

abbrev pub reason : List ℕ → Reply → List ℕ
reason tag reply = codes "\"><" ++ tag ++ why reply ++ codes "</" ++ tag ++ codes "></testcase>\n"

abbrev pub case_end : Judgement → Reply → List ℕ
case_end Right reply = codes "\"/>\n"
case_end Wrong reply = reason (codes "failure") reply
case_end Unknown reply = reason (codes "error") reply

unfoldable pub named : List ℕ → List ℕ → List ℕ
named words name = words ++ escaped name

-- so many thousandths of a second, in seconds with three digits after the point
unfoldable pub timed : ℕ → List ℕ
timed thousandths =
    counted TIME.now (thousandths / 1000) ++ codes "." ++ decimal (thousandths / 100 % 10) ++ decimal (thousandths / 10 % 10) ++ decimal (thousandths % 10)

unfoldable pub case_of : Reply → List ℕ
case_of reply = named CASE.now reply.row.name ++ timed reply.thousandths ++ case_end (judgement reply) reply

abbrev pub cases_of : List Reply → List ℕ
cases_of [] = []
cases_of (reply ∷ replies) = case_of reply ++ cases_of replies

-- how many cases there are, and how many of them are wrong and not known, between the quotation marks around the first and the last of these
unfoldable pub counts : List Reply → List ℕ
counts replies =
    decimal (length replies) ++ counted FAILURES.now (count_of Wrong replies) ++ counted ERRORS.now (count_of Unknown replies)

-- all cases with their counts, after words
unfoldable pub suite : List ℕ → List Reply → List ℕ
suite words replies = words ++ counts replies ++ codes "\">\n" ++ cases_of replies ++ END.now

abbrev pub junit_text : List Reply → List ℕ
junit_text replies = suite (codes "<?xml version=\"1.0\" encoding=\"UTF-8\"?>\n<testsuite name=\"fmpsim explore\" tests=\"") replies
