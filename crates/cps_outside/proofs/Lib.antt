-- Written: writes in a row.
mod Written
