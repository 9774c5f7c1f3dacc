mod Reopened
