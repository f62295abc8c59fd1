-- What a calendar means: its years, their months, the months' lengths, and the date of each day number.
use Rattle.std.specs.Prelude.{◌≡◌, ℕ, ◌+◌, ◌<◌, ◌≤◌, Bool, true, cond, ◌&&◌, List, ℤ, pos, negsuc, ◌+ℤ◌, ◌≤ℤ◌, is_ok, Some, None, Option, ◌≢◌, int_le, nat_le, nat_lt}
use Rattle.std.specs.Option as options
use Rattle.std.specs.Borrow.{Bor}
use Rattle.names.specs.Scanning.{read_calendar_name}
use Rattle.years.specs.declared.date.Date.{Date}

abbrev pub last_day : ℕ
last_day = 3652059

-- one calendar
pub record Calendar : Type 0 where
  -- the years of day 1 and of the last day
  pub first : ℤ
  pub last : ℤ
  -- the months of a year, and the length of a month of it
  pub months : ℤ → ℕ
  pub size : ℤ → ℕ → ℕ
  -- the date of a day number, and the day number of a date
  pub date : ℕ → Date
  pub number : Date → Option ℕ
  -- the month of the second year that is the twin of a month of the first
  pub twin : ℤ → ℕ → ℤ → ℕ

-- the date after this one, by the months of its year and the length of its month
abbrev pub next_date : Calendar → Date → Date
next_date c d =
    cond (nat_lt d.day (c.size d.year d.month))
    (record { year = d.year; month = d.month; day = d.day + 1 })
    (cond (nat_lt d.month (c.months d.year))
    (record { year = d.year; month = d.month + 1; day = 1 })
    (record { year = d.year +ℤ pos 1; month = 1; day = 1 }))

pub record CalendarLaws (c : Calendar) : Type 0 where
  pub lowest : negsuc 9999999 ≤ℤ c.first
  pub highest : c.last ≤ℤ pos 10000000
  pub starts : (c.date 1).year ≡ c.first
  pub ends : (c.date last_day).year ≡ c.last
  pub some_months : (y : ℤ) → c.first ≤ℤ y → y ≤ℤ c.last → (1 ≤ c.months y) × (c.months y ≤ 14)
  pub some_days : (y : ℤ) (m : ℕ) → c.first ≤ℤ y → y ≤ℤ c.last → 1 ≤ m → m ≤ c.months y → (1 ≤ c.size y m) × (c.size y m ≤ 31)
  pub month_inside : (n : ℕ) → 1 ≤ n → n ≤ last_day → (1 ≤ (c.date n).month) × ((c.date n).month ≤ c.months (c.date n).year)
  pub day_inside : (n : ℕ) → 1 ≤ n → n ≤ last_day → (1 ≤ (c.date n).day) × ((c.date n).day ≤ c.size (c.date n).year (c.date n).month)
  pub next : (n : ℕ) → 1 ≤ n → n < last_day → c.date (n + 1) ≡ next_date c (c.date n)
  pub numbered : (n : ℕ) → 1 ≤ n → n ≤ last_day → c.number (c.date n) ≡ Some n
  pub dated : (d : Date) (n : ℕ) → c.number d ≡ Some n → (1 ≤ n) × (n ≤ last_day) × (c.date n ≡ d)
  pub twin_inside : (y : ℤ) (m : ℕ) (z : ℤ) → c.first ≤ℤ y → y ≤ℤ c.last → 1 ≤ m → m ≤ c.months y → c.first ≤ℤ z → z ≤ℤ c.last → (1 ≤ c.twin y m z) × (c.twin y m z ≤ c.months z)
  pub twin_same : (y : ℤ) (m : ℕ) → c.first ≤ℤ y → y ≤ℤ c.last → 1 ≤ m → m ≤ c.months y → c.twin y m y ≡ m

-- a table of calendars: how many, and of each its name and its meaning
pub record Calendars : Type 0 where
  pub count : ℕ
  pub name : ℕ → List ℕ
  pub calendar : ℕ → Calendar

pub record CalendarsLaws (s : Calendars) : Type 0 where
  pub few : s.count ≤ 64
  pub named : (k : ℕ) → k < s.count → is_ok (read_calendar_name (s.name k)) ≡ true
  pub each : (k : ℕ) → k < s.count → CalendarLaws (s.calendar k)

-- ── the answers of a source ──

abbrev pub within : ℤ → ℤ → ℤ → Bool
within lo hi x = int_le lo x && int_le x hi

abbrev pub year_there : Calendar → ℤ → Bool
year_there c y = within c.first c.last y

abbrev pub month_there : Calendar → ℤ → ℕ → Bool
month_there c y m = year_there c y && (nat_le 1 m && nat_le m (c.months y))

-- ── of one calendar ──

abbrev pub months_in : Calendar → ℤ → Option ℕ
months_in c y = cond (year_there c y) (Some (c.months y)) None

abbrev pub length_in : Calendar → ℤ → ℕ → Option ℕ
length_in c y m = cond (month_there c y m) (Some (c.size y m)) None

abbrev pub date_in : Calendar → ℕ → Option Date
date_in c n = cond (nat_le 1 n && nat_le n last_day) (Some (c.date n)) None

abbrev pub twin_in : Calendar → ℤ → ℕ → ℤ → Option ℕ
twin_in c y m z = cond (month_there c y m && year_there c z) (Some (c.twin y m z)) None

-- ── of a table of calendars ──

-- what is asked of a calendar, where the calendar and what is asked for are there
abbrev pub asked : {X : Type 0} → Calendars → ℕ → (Calendar → Bool) → (Calendar → X) → Option X
asked s k there answer = cond (nat_lt k s.count && there (s.calendar k)) (Some (answer (s.calendar k))) None

abbrev pub first_of : Calendars → ℕ → Option ℤ
first_of s k = asked s k (λ _. true) (λ c. c.first)

abbrev pub last_of : Calendars → ℕ → Option ℤ
last_of s k = asked s k (λ _. true) (λ c. c.last)

abbrev pub months_of : Calendars → ℕ → ℤ → Option ℕ
months_of s k y = asked s k (λ c. year_there c y) (λ c. c.months y)

abbrev pub length_of : Calendars → ℕ → ℤ → ℕ → Option ℕ
length_of s k y m = asked s k (λ c. month_there c y m) (λ c. c.size y m)

abbrev pub date_of : Calendars → ℕ → ℕ → Option Date
date_of s k n = asked s k (λ _. nat_le 1 n && nat_le n last_day) (λ c. c.date n)

abbrev pub day_of : Calendars → ℕ → Date → Option ℕ
day_of s k d = cond (nat_lt k s.count) ((s.calendar k).number d) None

abbrev pub twin_of : Calendars → ℕ → ℤ → ℕ → ℤ → Option ℕ
twin_of s k y m z = asked s k (λ c. month_there c y m && year_there c z) (λ c. c.twin y m z)

-- the answer to the question for a number's name
abbrev pub NameIs : Calendars → ℕ → Option (Bor (List ℕ)) → Type 0
NameIs s k r = options.MatchOption r (s.count ≤ k) (λ x. (k < s.count) × (x.now ≡ s.name k))

-- a number is there, and bears a name
abbrev pub Bears : Calendars → ℕ → List ℕ → Type 0
Bears s k n = (k < s.count) × (s.name k ≡ n)

-- the answer to the question for a name: the lowest number that bears it
abbrev pub FoundIs : Calendars → List ℕ → Option ℕ → Type 0
FoundIs s n r =
    options.MatchOption r
    ((k : ℕ) → k < s.count → s.name k ≢ n)
    (λ i. (i < s.count) × (s.name i ≡ n) × ((k : ℕ) → k < i → s.name k ≢ n))
